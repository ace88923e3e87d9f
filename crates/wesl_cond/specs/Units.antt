-- Units without a fault, in stages and under choices.
use Rattle.std.specs.Prelude.{◌≡◌, ℕ}
pub use Rattle.wesl_cond_unit.specs.Left.{left_of}
use Rattle.wesl_cond_chains.specs.Flags.{flags_of, AgreesOn}
use Rattle.wesl_cond_chains.specs.Judging.{RefusesIn}
use Rattle.wesl_cond_chains.specs.Laws.{IsFaultless}
use Rattle.wesl_cond_chains.specs.Picked.{Choice, picked_unit}
use Rattle.wesl_cond_chains.specs.Residual.{residual_unit}
use Rattle.wesl_cond_features.specs.Features.{Replies, known, by_number, HoldsNoError, then_replies}
use Rattle.wesl_tree_names.specs.Path.{Text}
use Rattle.wesl_tree_names.specs.declared.errors.Diagnostic.{Diagnostic}
use Rattle.wesl_tree_syntax.specs.Unit.{UnitView, trees_of, forest_of_unit, spelled}

-- no fault of a condition stands in a unit
abbrev pub IsFaultlessUnit : Replies Text → UnitView → Type 0
IsFaultlessUnit reply u = IsFaultless (by_number u.names reply) (trees_of u)

-- a diagnostic tells a fault that stands in a unit, with its span and nothing else, or that memory is wanting to tell it
abbrev pub RefusesUnit : Replies Text → UnitView → Diagnostic → Type 0
RefusesUnit reply u told = RefusesIn u.names (by_number u.names reply) (forest_of_unit (trees_of u)) told

-- Whatever an earlier stage without refusals left a unit of, this one goes on with it: what is left now is what both in one leave.
abbrev pub GoesOn : Replies Text → UnitView → UnitView → Type 0
GoesOn second before after = (first : Replies Text) (u : UnitView) → HoldsNoError first → before ≡ left_of first u → after ≡ left_of (then_replies first second) u

-- So too where spans and numbers do not count: for whatever is only spelled as what the earlier stage left, as where that was printed and read again.
abbrev pub GoesOnSpelled : Replies Text → UnitView → UnitView → Type 0
GoesOnSpelled second before after =
    (first : Replies Text) (u : UnitView) → HoldsNoError first → spelled before ≡ spelled (left_of first u) → spelled after ≡ spelled (left_of (then_replies first second) u)

-- The spelling of what is left is what is left of the spelling.
abbrev pub SpellsWhatIsLeft : Type 0
SpellsWhatIsLeft = (reply : Replies Text) (u : UnitView) → spelled (left_of reply u) ≡ residual_unit (known reply) (spelled u)

-- some earlier stage left it of a unit without a fault in that stage
abbrev pub IsLeftOver : UnitView → Type 0
IsLeftOver before = (first : Replies Text) × (u : UnitView) × IsFaultlessUnit first u × (before ≡ left_of first u)

-- some earlier stage left a unit that is spelled as it is
abbrev pub IsSpelledLeftOver : UnitView → Type 0
IsSpelledLeftOver before = (first : Replies Text) × (u : UnitView) × IsFaultlessUnit first u × (spelled before ≡ spelled (left_of first u))

-- the answers are those of two stages that refuse no flag, and the unit has no fault in the first
abbrev pub AreTwoStages : Replies Text → UnitView → Type 0
AreTwoStages reply u =
    (first : Replies Text) × (second : Replies Text) × HoldsNoError first × HoldsNoError second × IsFaultlessUnit first u × ((flag : Text) → reply flag ≡ then_replies first second flag)

-- so for a unit that is spelled as it is
abbrev pub AreSpelledTwoStages : Replies Text → UnitView → Type 0
AreSpelledTwoStages reply before = (u : UnitView) × AreTwoStages reply u × (spelled before ≡ spelled u)

-- every choice that agrees with the answers on the flags of a unit picks the same before and after
abbrev pub Picks : Replies Text → UnitView → UnitView → Type 0
Picks reply before after =
    (choice : Choice ℕ) → AgreesOn (flags_of (trees_of before)) choice (known (by_number before.names reply))
    → picked_unit choice (trees_of after) ≡ picked_unit choice (trees_of before)
