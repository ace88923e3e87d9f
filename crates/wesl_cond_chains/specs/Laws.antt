-- What the definitions promise.
use Rattle.std.specs.Prelude.{◌≡◌, ◌↔◌, ℕ, false, true, nat_lt}
use Rattle.wesl_cond_chains.specs.Faults.{Stands}
use Rattle.wesl_cond_chains.specs.Flags.{flags_of, AgreesOn}
use Rattle.wesl_cond_chains.specs.Picked.{Choice, picked_unit}
use Rattle.wesl_cond_chains.specs.Residual.{residual_tree, residual_unit}
use Rattle.wesl_cond_features.specs.Answers.{Answers, in_stages}
use Rattle.wesl_cond_chains.specs.FormulaFaults.{Fault}
use Rattle.wesl_cond_features.specs.Features.{Replies, known, by_number, HoldsNoError, then_replies}
use Rattle.wesl_tree_names.specs.Path.{Text}
use Rattle.wesl_tree_syntax.specs.Tree.{Tree, tree_below}
use Rattle.wesl_tree_syntax.specs.Unit.{UnitOf, UnitView, forest_of_unit, trees_of, spelled}

-- What a second stage leaves of what a first one left is what both in one leave.
abbrev pub RunsInStages : Type 0
RunsInStages = (first second : Answers ℕ) (u : UnitOf ℕ) → residual_unit second (residual_unit first u) ≡ residual_unit (in_stages first second) u

-- Twice is once, whatever is answered.
abbrev pub TwiceIsOnce : Type 0
TwiceIsOnce = (answers : Answers ℕ) (u : UnitOf ℕ) → residual_unit answers (residual_unit answers u) ≡ residual_unit answers u

-- A choice that agrees with the answers on the flags of a module picks the same before and after.
abbrev pub PicksTheSame : Type 0
PicksTheSame = (answers : Answers ℕ) (choice : Choice ℕ) (u : UnitOf ℕ) → AgreesOn (flags_of u) choice answers → picked_unit choice (residual_unit answers u) ≡ picked_unit choice u

-- Without `Error` the answers of `then` are those in stages.
abbrev pub ThenIsInStages : Type 0
ThenIsInStages = (first second : Replies ℕ) → HoldsNoError first → known (then_replies first second) ≡ in_stages (known first) (known second)

module _ {I : Type 0} where
  -- a fault stands in one of the lists of a module, or inside a node of one
  abbrev pub StandsIn : Replies I → UnitOf I → Fault I → Type 0
  StandsIn reply u f = Stands reply false (forest_of_unit u) f

  -- no fault stands in a module
  abbrev pub IsFaultless : Replies I → UnitOf I → Type 0
  IsFaultless reply u = (f : Fault I) → StandsIn reply u f → ⊥

-- A module in which no fault stands has none in a later stage, where that refuses no flag.
abbrev pub LaterStagesAreFaultless : Type 0
LaterStagesAreFaultless = (first second : Replies ℕ) (u : UnitOf ℕ) → HoldsNoError second → IsFaultless first u → IsFaultless second (residual_unit (known first) u)

-- A module in which no fault stands has none in this and a later stage at once, where neither refuses a flag.
abbrev pub BothStagesAreFaultless : Type 0
BothStagesAreFaultless = (first second : Replies ℕ) (u : UnitOf ℕ) → HoldsNoError first → HoldsNoError second → IsFaultless first u → IsFaultless (then_replies first second) u

-- No fault stands in a module exactly where none stands in its spelling: spans and numbers do not count.
abbrev pub SpellingTellsFaults : Type 0
SpellingTellsFaults = (reply : Replies Text) (u : UnitView) → IsFaultless (by_number u.names reply) (trees_of u) ↔ IsFaultless reply (spelled u)

-- What is left of a tree names nothing outside a table, where the answers are the same for all numbers outside.
abbrev pub LeftStaysWithin : Type 0
LeftStaysWithin = (n : ℕ) (answers : Answers ℕ) (t : Tree) → ((i : ℕ) → nat_lt i n ≡ false → answers i ≡ answers n) → tree_below n t ≡ true → tree_below n (residual_tree answers t) ≡ true
