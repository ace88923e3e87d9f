-- Where the printed names of a module read otherwise than its numbers say (WGSL, "Declaration and Scope").
use Rattle.std.specs.Prelude.{ℕ, Bool, not, ◌&&◌, ◌==◌, nat_le, Option, Some, None, List, [], ◌∷◌, if◌then◌else◌}
use Rattle.std.specs.List.{find, filter_map, list_any}
use Rattle.std.specs.Option.{option_map}
use Rattle.wesl_tree_names.specs.Path.{Text}
use Rattle.wesl_tree_syntax.specs.Unit.{UnitView, trees_of}
use Rattle.wesl_scope_occurrences.specs.Occurrences.{OccurrenceIn, Occurrence, occurrences, is_unqualified}
use Rattle.wesl_scope_numbers.specs.Faithful.{is_global, name_of, binders_of}
use Rattle.wesl_scope_numbers.specs.Test.{is_named, has_number}
use Rattle.wesl_scope_clashes.specs.declared.clash.Binder.{Binder}
use Rattle.wesl_scope_clashes.specs.declared.clash.Reading.{Reading}
use Rattle.wesl_scope_clashes.specs.declared.clash.Reading.TheVariants.{Captured, Unbound, Duplicate}
use Rattle.wesl_scope_clashes.specs.declared.clash.Clash.{Clash}

-- what is told of an identifier that clashes
pub record ClashOf : Type 0 where
  pub place : ℕ
  pub name : Text
  pub number : ℕ
  pub reading : Reading

-- what a clash of the code tells
abbrev pub clash_view : Clash → ClashOf
clash_view c = record { place = c.place; name = c.name.now; number = c.ident.0; reading = c.reading }

module _ {B : Type 0} where
  -- a binder by its number and its place
  abbrev pub binder_at : OccurrenceIn ℕ B → Binder
  binder_at o = record { ident = record { 0 = o.name }; place = o.place }

  -- whether its number is another than m
  abbrev pub has_other : ℕ → OccurrenceIn ℕ B → Bool
  has_other m o = not (o.name == m)

-- the identifiers of a module, each with its number `o.name`, which has a name in the table
module _ (names : List Text) (all : List (Occurrence ℕ)) where
  -- How a reference of the number m is misread whose name picks these binders: the first of them with another number
  -- captures it; where there are none, it is unbound, if m is the number of a binder.
  abbrev pub read_among : ℕ → List (Occurrence ℕ) → Option Reading
  read_among m [] = if list_any (has_number m) all then Some Unbound else None
  read_among m (x ∷ xs) = option_map (λ b. Captured (binder_at b)) (find (has_other m) (x ∷ xs))

  -- whether b is a binder of the module's block, not after o, that has its name and another number
  abbrev pub is_rival : Occurrence ℕ → Occurrence ℕ → Bool
  is_rival o b = is_named names (name_of names all o) b && (nat_le b.place o.place && has_other o.name b)

  -- How an identifier is misread, if it is: a reference without a path by the binders that its name picks, and a binder
  -- of the module's block by the first that has its name and another number.
  abbrev pub misreading : Occurrence ℕ → Option Reading
  misreading o =
      if is_unqualified o.role then read_among o.name (binders_of names all (name_of names all o) o.place o.block)
      else (if is_global o then option_map (λ b. Duplicate (binder_at b)) (find (is_rival o) all) else None)

  -- what is told of an identifier, if it is misread
  abbrev pub clash_at : Occurrence ℕ → Option ClashOf
  clash_at o = option_map (λ r. record { place = o.place; name = name_of names all o; number = o.name; reading = r }) (misreading o)

-- all that clash, in document order
abbrev pub clashes : UnitView → List ClashOf
clashes u = filter_map (clash_at u.names (occurrences (trees_of u))) (occurrences (trees_of u))
