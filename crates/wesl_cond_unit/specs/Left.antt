-- What features leave of a unit.
use Rattle.std.specs.Prelude.{ℕ}
use Rattle.wesl_cond_chains.specs.Laws.{IsFaultless}
use Rattle.wesl_cond_chains.specs.Residual.{residual_tree, residual_unit}
use Rattle.wesl_cond_features.specs.Features.{Replies, known, by_number}
use Rattle.wesl_tree_names.specs.Path.{Text}
use Rattle.wesl_tree_syntax.specs.Unit.{UnitOf, UnitView}

-- what is left under the answers to the names of flags; the table of names stays
abbrev pub left_of : Replies Text → UnitView → UnitView
left_of reply u =
    let answers = known (by_number u.names reply) in
    record { names = u.names; imports = residual_tree answers u.imports; directives = residual_tree answers u.directives; declarations = residual_tree answers u.declarations }

-- Where no fault stands in a module, none stands in what is left of it, under the same answers, whichever flags they refuse.
abbrev pub LeavesNoFault : Type 0
LeavesNoFault = (reply : Replies ℕ) (u : UnitOf ℕ) → IsFaultless reply u → IsFaultless reply (residual_unit (known reply) u)
