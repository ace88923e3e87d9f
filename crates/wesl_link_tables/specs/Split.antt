-- The binders of a module, and what each choice of flags keeps of it, where names of it have several targets.
use Rattle.std.specs.Prelude.{ℕ, suc, nat_lt, Bool, ◌&&◌, if◌then◌else◌, Option, Some, None, List, [], ◌∷◌, ◌++◌, length, map, true}
use Rattle.wesl_tree_names.specs.Path.{Text}
use Rattle.wesl_tree_syntax.specs.Unit.{UnitOf}
use Rattle.wesl_cond_choices.specs.declared.place.Place.{Place}
use Rattle.wesl_cond_choices.specs.declared.place.Place.TheVariants as places
use Rattle.wesl_link_symbols.specs.declared.symbols.Import.{Import}
use Rattle.wesl_cond_alive.specs.Alive.{alive_of}
use Rattle.wesl_cond_alive.specs.Choices.{flags}
use Rattle.wesl_link_split.specs.Split.{binder_of}
use Rattle.wesl_link_split.specs.declared.binders.Binder.{Binder}

module _ {P N : Type 0} (own : P) where
  -- the declaration with this number, which binds a name, or none
  abbrev pub declares_as : ℕ → Option N → List (Binder P N)
  declares_as k None = []
  declares_as k (Some n) = record { bound = n; path = own; item = n; declares = true; stands = places.Declaration k } ∷ []

  -- declarations from this number on
  abbrev pub declared_from : ℕ → List (Option N) → List (Binder P N)
  declared_from k [] = []
  declared_from k (n ∷ ns) = declares_as k n ++ declared_from (suc k) ns

  -- the binders of a module: its declarations, by the names that they bind, if they bind one, and its imports
  abbrev pub binders_by : List (Option N) → List (Import P N) → List (Binder P N)
  binders_by names imports = declared_from 0 names ++ map binder_of imports

-- too many flags to look at all choices
abbrev pub has_many_flags : UnitOf Text → Bool
has_many_flags u = nat_lt 16 (length (flags u))

-- of each choice of flags the places that it keeps, where names have several targets; else, and of too many flags, nothing
abbrev pub alive_if : Bool → UnitOf Text → List (List Place)
alive_if is_any_split u = if is_any_split then (if has_many_flags u then [] else alive_of u) else []

-- a module with too many flags, where names have several targets
abbrev pub crowded_if : Bool → UnitOf Text → Bool
crowded_if is_any_split u = is_any_split && has_many_flags u
