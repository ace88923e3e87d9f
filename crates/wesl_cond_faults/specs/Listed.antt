-- All faults of conditions that stand in some trees.
use Rattle.std.specs.Prelude.{◌≡◌, ◌↔◌, ℕ, List, [], ◌++◌, Bool, true, false}
use Rattle.wesl_cond_chains.specs.Chains.{staying}
use Rattle.wesl_cond_chains.specs.Faults.{list_at}
use Rattle.wesl_cond_chains.specs.FormulaFaults.{IsAmong}
use Rattle.wesl_cond_chains.specs.Lists.{element, is_entered, holds_body, judged}
use Rattle.wesl_cond_features.specs.Features.{Replies, known}
use Rattle.wesl_cond_chains.specs.Places.{Place, StandsAt}
use Rattle.wesl_cond_faults.specs.Places.{IsToldAs, StandsTold, told_of_list}
use Rattle.wesl_tree_syntax.specs.Tree.{LabelOf, ForestOf, Forest, end, tree}

-- The faults in some trees, in document order: of a list that is judged its own, or, where it has none, those inside its nodes
-- that stay.
pub data AreFaults {I : Type 0} (reply : Replies I) : Bool → ForestOf I → List (Place I) → Type 0 where
  nothing : {held : Bool} → AreFaults reply held end []
  own : {held : Bool} {l : LabelOf I} {children others : ForestOf I} {rest : List (Place I)} → is_entered l ≡ true → (told_of_list reply false (list_at held l children) ≡ [] → ⊥)
      → AreFaults reply held others rest → AreFaults reply held (tree l children others) (told_of_list reply false (list_at held l children) ++ rest)
  inside : {held : Bool} {l : LabelOf I} {children others : ForestOf I} {inner rest : List (Place I)} → is_entered l ≡ true → told_of_list reply false (list_at held l children) ≡ []
      → AreFaults reply (holds_body held l) (judged (staying element (known reply)) held l children) inner
      → AreFaults reply held others rest → AreFaults reply held (tree l children others) (inner ++ rest)
  apart : {held : Bool} {l : LabelOf I} {children others : ForestOf I} {rest : List (Place I)} → is_entered l ≡ false
      → AreFaults reply held others rest → AreFaults reply held (tree l children others) rest

-- They are the faults that stand there, each with the span that is told of it: each of them stands, and each that stands is one.
abbrev pub ListsAllThatStand : Type 0
ListsAllThatStand =
    (reply : Replies ℕ) (held : Bool) (trees : Forest) (places : List (Place ℕ)) → AreFaults reply held trees places
    → (p : Place ℕ) → StandsTold reply held trees p ↔ IsAmong p places

-- Trees have no two lists of faults.
abbrev pub IsOneList : Type 0
IsOneList =
    (reply : Replies ℕ) (held : Bool) (trees : Forest) (places others : List (Place ℕ)) → AreFaults reply held trees places → AreFaults reply held trees others → places ≡ others

-- They are what a module is refused for: of each fault for which it may be there is one with the same span, or with any where a
-- refusal tells none; and each tells one of these so.
abbrev pub TellsWhatRefuses : Type 0
TellsWhatRefuses =
    (reply : Replies ℕ) (held : Bool) (trees : Forest)
    → ((p : Place ℕ) → StandsAt reply held trees p → (q : Place ℕ) × StandsTold reply held trees q × IsToldAs p q)
    × ((q : Place ℕ) → StandsTold reply held trees q → (p : Place ℕ) × StandsAt reply held trees p × IsToldAs p q)
