-- What the functions of the code find, in terms of what is looked up.
use Rattle.std.specs.Prelude.{◌≡◌, ◌<◌, ◌||◌, ℕ, Bool, Option, List, ◌++◌, length, map}
use Rattle.std.specs.List.{list_any}
use Rattle.std.specs.Option.{option_map, option_or, option_to_list}
use Rattle.wesl_tree_names.specs.Path.{Text}
use Rattle.wesl_scope_occurrences.specs.Views.{occurrence_view}
use Rattle.wesl_scope_occurrences.specs.Walk.{Found}
use Rattle.wesl_scope_occurrences.specs.declared.occurrence.Occurrence.{Occurrence}
use Rattle.wesl_scope_strip.specs.Marks.{mark_at}
use Rattle.wesl_scope_numbers.specs.Test.{has_number}
use Rattle.wesl_scope_clashes.specs.Clashes.{ClashOf, clash_view}
use Rattle.wesl_scope_clashes.specs.Sightings.{first_of, groups_view, first_in, if_met, is_seen, is_declared, one_met, first_met}
use Rattle.wesl_scope_clashes.specs.ByMeaning.{Look, clash_by, clashes_by}
use Rattle.wesl_scope_clashes.specs.declared.binders.Binders.{Binders}
use Rattle.wesl_scope_clashes.specs.declared.clash.Clash.{Clash}
use Rattle.wesl_scope_clashes.specs.declared.sightings.Sighting.{Sighting}

-- ---- binders
-- two lists of sightings have the same first one, whatever is asked
abbrev pub FindAlike : List Sighting → List Sighting → Type 0
FindAlike ss ts = (p : ℕ) (x : Option ℕ) → first_of p x ss ≡ first_of p x ts

-- what binders are looked up for
abbrev pub look : Binders → Look
look b = first_in (groups_view b.of.items)

-- two looks find the same
abbrev pub FindsAs : Look → Look → Type 0
FindsAs f g = (k p : ℕ) (x : Option ℕ) → f k p x ≡ g k p x

-- the first of these, or else of those
abbrev pub or_else_found : Look → Look → Look
or_else_found f g k p x = option_or (f k p x) (g k p x)

-- one sighting of the meaning n
abbrev pub found_at : ℕ → Sighting → Look
found_at n s k p x = if_met k p x n s

-- one identifier of the meaning n, where it is a binder that is visible
abbrev pub seen_at : ℕ → Found → Look
seen_at n o k p x = one_met is_seen k p x n o

-- the same, where it is a binder of the module's block and not later
abbrev pub declared_at : ℕ → Found → Look
declared_at n o k p x = one_met is_declared k p x n o

-- ---- marks
-- after the numbers that pass were marked
abbrev pub AreMarked : List Bool → (ℕ → Bool) → List Bool → Type 0
AreMarked old passes new = (m : ℕ) → m < length old → mark_at new m ≡ (mark_at old m || passes m)

-- whether one of these is a binder of the number m
abbrev pub has_binder : List Found → ℕ → Bool
has_binder os m = list_any (has_number m) os

-- ---- clashes
-- what was told, and one more, if it is one
abbrev pub told_with : List Clash → Option Clash → List ClashOf
told_with told found = map clash_view told ++ option_to_list (option_map clash_view found)

-- by the tables of binders and of bound numbers, what is told of one identifier
abbrev pub one_by_tables : Binders → Binders → List Bool → List Text → ℕ → Occurrence → Option ClashOf
one_by_tables visible globals bound names k o = clash_by (look visible) (look globals) (mark_at bound) names k (occurrence_view o)

-- and of all
abbrev pub by_tables : Binders → Binders → List Bool → List Text → List ℕ → List Occurrence → List ClashOf
by_tables visible globals bound names ks os = clashes_by (look visible) (look globals) (mark_at bound) names ks (map occurrence_view os)

-- by the identifiers themselves, each with its meaning
abbrev pub by_identifiers : List Text → List ℕ → List Found → List ClashOf
by_identifiers names ks os = clashes_by (first_met is_seen ks os) (first_met is_declared ks os) (has_binder os) names ks os
