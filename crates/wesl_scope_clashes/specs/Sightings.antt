-- What the values of the code that find binders stand for.
use Rattle.std.specs.Prelude.{ℕ, Bool, true, not, ◌&&◌, ◌==◌, nat_le, Option, Some, None, List, [], ◌∷◌, map, get_or, Vec, if◌then◌else◌}
use Rattle.std.specs.List.{find}
use Rattle.std.specs.Option.{option_map, option_or}
use Rattle.std.specs.declared.alloc.Global.{Global}
use Rattle.wesl_scope_occurrences.specs.Occurrences.{is_binder}
use Rattle.wesl_scope_occurrences.specs.Walk.{Found}
use Rattle.wesl_scope_meanings.specs.Scopes.{is_visible}
use Rattle.wesl_scope_clashes.specs.Clashes.{binder_at}
use Rattle.wesl_scope_clashes.specs.declared.clash.Binder.{Binder}
use Rattle.wesl_scope_clashes.specs.declared.sightings.Sighting.{Sighting}

-- whether a number is another than the one that is excepted, if one is
abbrev pub differs : Option ℕ → ℕ → Bool
differs None n = true
differs (Some m) n = not (n == m)

-- whether a binder is there at place p, and not excepted
abbrev pub is_met : ℕ → Option ℕ → Sighting → Bool
is_met p x s = nat_le s.from p && differs x s.binder.ident.0

-- the first binder of these that is there at place p, and not excepted
abbrev pub first_of : ℕ → Option ℕ → List Sighting → Option Binder
first_of p x ss = option_map (λ s. s.binder) (find (is_met p x) ss)

-- the binders of each meaning, by its number
abbrev pub Groups : Type 0
Groups = List (List Sighting)

-- the groups that the lists of the code are
abbrev pub groups_view : List (Vec Sighting Global) → Groups
groups_view = map (λ v. v.items)

-- the first that is met among those of the meaning k
abbrev pub first_in : Groups → ℕ → ℕ → Option ℕ → Option Binder
first_in g k p x = first_of p x (get_or g k [])

-- the binder of a sighting of the meaning n, if it is met among those of the meaning k
abbrev pub if_met : ℕ → ℕ → Option ℕ → ℕ → Sighting → Option Binder
if_met k p x n s = if n == k && is_met p x s then Some s.binder else None

-- whether an identifier is a binder that is visible at place p
abbrev pub is_seen : ℕ → Found → Bool
is_seen p o = is_visible p o.role

-- whether it is a binder of the module's block
abbrev pub in_module : Found → Bool
in_module o = is_binder o.role && o.block == 0

-- the same, if it is not after place p
abbrev pub is_declared : ℕ → Found → Bool
is_declared p o = in_module o && nat_le o.place p

-- an identifier of the meaning n, if it has the meaning k, passes the test at place p, and is not excepted
abbrev pub one_met : (ℕ → Found → Bool) → ℕ → ℕ → Option ℕ → ℕ → Found → Option Binder
one_met test k p x n o = if n == k && (test p o && differs x o.name) then Some (binder_at o) else None

-- the first of these identifiers, each with its meaning
abbrev pub first_met : (ℕ → Found → Bool) → List ℕ → List Found → ℕ → ℕ → Option ℕ → Option Binder
first_met test (n ∷ ns) (o ∷ os) k p x = option_or (one_met test k p x n o) (first_met test ns os k p x)
first_met test _ _ k p x = None
