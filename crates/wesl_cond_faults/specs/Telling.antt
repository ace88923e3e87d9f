-- How diagnostics tell faults.
use Rattle.std.specs.Prelude.{◌≡◌, ℕ, Bool, List, [], ◌∷◌, ◌++◌, false, map}
use Rattle.wesl_cond_chains.specs.Chains.{staying}
use Rattle.wesl_cond_chains.specs.Evaluation.{TellsPlace}
use Rattle.wesl_cond_chains.specs.Faults.{conditions, place_faults}
use Rattle.wesl_cond_chains.specs.FormulaFaults.{Fault}
use Rattle.wesl_cond_chains.specs.Laws.{IsFaultless}
use Rattle.wesl_cond_chains.specs.Lists.{Element, alone, element}
use Rattle.wesl_cond_chains.specs.Nodes.{answers, as_element, attributes_forest, nodes_forest, replies}
use Rattle.wesl_cond_faults.specs.Listed.{AreFaults}
use Rattle.wesl_cond_chains.specs.Places.{Place, found_at}
use Rattle.wesl_cond_faults.specs.Places.{told_of_list, told_of_node}
use Rattle.wesl_cond_faults.specs.declared.told.Told.{Told}
use Rattle.wesl_cond_features.specs.Features.{Replies, by_number}
use Rattle.wesl_cond_features.specs.declared.features.Features.{Features}
use Rattle.wesl_tree_base.specs.declared.span.Span.{Span}
use Rattle.wesl_tree_names.specs.Path.{Text}
use Rattle.wesl_tree_names.specs.declared.errors.Diagnostic.{Diagnostic}
use Rattle.wesl_tree_syntax.specs.Tree.{Forest, Tree, before, end}
use Rattle.wesl_tree_syntax.specs.Unit.{UnitView, forest_of_unit, name_in, trees_of}
use Rattle.wesl_tree_syntax.specs.declared.attribute.Attribute.{Attribute}
use Rattle.wesl_tree_syntax.specs.declared.span.Spanned.{Spanned}

-- diagnostics tell faults one by one
abbrev pub TellEach : List Text → List (Place ℕ) → List Diagnostic → Type 0
TellEach names [] [] = Unit {0}
TellEach names [] (told ∷ rest) = ⊥
TellEach names (place ∷ places) [] = ⊥
TellEach names (place ∷ places) (told ∷ rest) = TellsPlace names place told × TellEach names places rest

-- diagnostics tell all faults of conditions in some trees
abbrev pub TellsAll : List Text → Replies ℕ → Forest → List Diagnostic → Type 0
TellsAll names reply trees told = (places : List (Place ℕ)) × AreFaults reply false trees places × TellEach names places told

-- diagnostics tell all faults of conditions in a unit
abbrev pub TellsUnit : Replies Text → UnitView → List Diagnostic → Type 0
TellsUnit reply u told = TellsAll u.names (by_number u.names reply) (forest_of_unit (trees_of u)) told

-- what was told so far, unless memory was wanting
abbrev pub IsTold : List Text → List (Place ℕ) → Told → Type 0
IsTold names places told = told.is_refused ≡ false → TellEach names places told.diagnostics.items

-- these faults are told after those before
abbrev pub AddsFaults : List Text → List (Place ℕ) → Told → Told → Type 0
AddsFaults names places before after = (first : List (Place ℕ)) → IsTold names first before → IsTold names (first ++ places) after

-- one more fault is told, with the span of what is at fault
abbrev pub AddsFault : List Text → Span → Fault ℕ → Told → Told → Type 0
AddsFault names span fault before after = AddsFaults names (found_at span fault ∷ []) before after

-- a fault of the flag of this name is told, whatever its number is in a table that has it
abbrev pub AddsFlag : (ℕ → Fault ℕ) → Text → Span → Told → Told → Type 0
AddsFlag fault name span before after = (names : List Text) → (number : ℕ) → name_in names number ≡ name → AddsFault names span (fault number) before after

-- the faults that are found under the features, which answer for the flags by their names in the table, are told after those before
abbrev pub AddsFound : List Text → Features → (Replies ℕ → List (Place ℕ)) → Told → Told → Type 0
AddsFound names features places before after = AddsFaults names (places (replies names features)) before after

-- so of where the conditions among attributes stand, each fault with this span
abbrev pub AddsMisplaced : Span → Bool → List (Spanned Attribute) → Told → Told → Type 0
AddsMisplaced span opened xs before after =
    (names : List Text) → AddsFaults names (map (found_at span) (place_faults opened (conditions (attributes_forest xs)))) before after

-- so of the conditions of a node, whether or not it is what closes its list
abbrev pub AddsNode : List Text → Features → Bool → Tree → Told → Told → Type 0
AddsNode names features opened t before after =
    (closes : Bool) → AddsFound names features (λ r. told_of_node r opened (as_element closes t)) before after

-- so of the conditions of the nodes of a list
abbrev pub AddsList : List Text → Features → List (Element ℕ) → Told → Told → Type 0
AddsList names features nodes before after = AddsFound names features (λ r. told_of_list r false nodes) before after

-- all faults in some trees are told after those before
abbrev pub AddsAll : List Text → Replies ℕ → Forest → Told → Told → Type 0
AddsAll names reply trees before after = (places : List (Place ℕ)) × AreFaults reply false trees places × AddsFaults names places before after

-- the same under the features, which answer for the flags by their names in the table
abbrev pub AddsUnder : List Text → Features → Forest → Told → Told → Type 0
AddsUnder names features trees before after = AddsAll names (replies names features) trees before after

-- so of one tree
abbrev pub AddsInside : List Text → Features → Tree → Told → Told → Type 0
AddsInside names features t old new = AddsUnder names features (before t end) old new

-- what of the nodes of a list stays under the features
abbrev pub what_stays : {A : Type 0} → List Text → Features → (A → Tree) → List A → Forest
what_stays names features view xs = alone (staying element (answers names features)) (nodes_forest view xs)

-- all faults in the nodes of a list that stay are told after those before
abbrev pub AddsStaying : {A : Type 0} → List Text → Features → (A → Tree) → List A → Told → Told → Type 0
AddsStaying names features view xs before after = AddsUnder names features (what_stays names features view xs) before after

-- no fault of a condition stands in a unit
abbrev pub HasNoFault : Replies Text → UnitView → Type 0
HasNoFault reply u = IsFaultless (by_number u.names reply) (trees_of u)
