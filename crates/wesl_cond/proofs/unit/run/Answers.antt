use Rattle.std.proofs.Common.{rules}
use Rattle.wesl_cond_chains.proofs.Located.{clear_without}
use Rattle.wesl_cond_chains.specs.Nodes.{replies}
use Rattle.wesl_tree_syntax.specs.Unit.{forest_of_unit, trees_of}
use Rattle.wesl_cond_features.specs.Features.{answer_to}
use Rattle.wesl_tree.specs.Translation.{unit_view}
use Rattle.wesl_cond.proofs.Stages.{settled_is, settled_faultless_is, goes_on, picks_same, not_faultless, left_over_faultless, two_stages_faultless}
use Rattle.wesl_cond.proofs.Spelled.{goes_on_spelled, spelled_left_over_faultless, spelled_two_stages_faultless}
use Rattle.wesl_cond.proofs.unit.run.Goals as goal

pub returns-in-Ok-clause-faultless : goal.returns-in-Ok-clause-faultless
returns-in-Ok-clause-faultless c =
    let u = unit_view c.args.unit.now in
    clear_without (replies u.names c.args.features.now) (forest_of_unit (trees_of u)) c.in-Ok.ensures

pub returns-in-Ok-clause-settled : goal.returns-in-Ok-clause-settled
returns-in-Ok-clause-settled c = settled_is c.law_of_twice.ensures (answer_to c.args.features.now) (unit_view c.args.unit.now) (unit_view c.resolve.new.unit) c.resolve.ensures

pub returns-in-Ok-clause-settled_faultless : goal.returns-in-Ok-clause-settled_faultless
returns-in-Ok-clause-settled_faultless c =
    let u = unit_view c.args.unit.now in
    settled_faultless_is c.law_of_repetition.ensures (answer_to c.args.features.now) u (unit_view c.resolve.new.unit) c.resolve.ensures
    (clear_without (replies u.names c.args.features.now) (forest_of_unit (trees_of u)) c.in-Ok.ensures)

pub returns-in-Ok-clause-staged : goal.returns-in-Ok-clause-staged
returns-in-Ok-clause-staged c = goes_on c.law_of_stages.ensures c.law_of_then.ensures (answer_to c.args.features.now) (unit_view c.args.unit.now) (unit_view c.resolve.new.unit) c.resolve.ensures

pub returns-in-Ok-clause-staged_spelled : goal.returns-in-Ok-clause-staged_spelled
returns-in-Ok-clause-staged_spelled c = goes_on_spelled c.law_of_stages.ensures c.law_of_then.ensures (answer_to c.args.features.now) (unit_view c.args.unit.now) (unit_view c.resolve.new.unit) c.resolve.ensures

pub returns-in-Ok-clause-picks : goal.returns-in-Ok-clause-picks
returns-in-Ok-clause-picks c = picks_same c.law_of_choices.ensures (answer_to c.args.features.now) (unit_view c.args.unit.now) (unit_view c.resolve.new.unit) c.resolve.ensures

pub returns-in-Err-clause-staged_succeeds : goal.returns-in-Err-clause-staged_succeeds
returns-in-Err-clause-staged_succeeds c = λ no_error left.
    let u = unit_view c.args.unit.now in
    absurd (not_faultless u.names (replies u.names c.args.features.now) (trees_of u) c.in-Err.told c.in-Err.ensures (left_over_faultless c.law_of_later_stages.ensures (answer_to c.args.features.now) u no_error left))

pub returns-in-Err-clause-composed_succeeds : goal.returns-in-Err-clause-composed_succeeds
returns-in-Err-clause-composed_succeeds c = λ stages.
    let u = unit_view c.args.unit.now in
    absurd (not_faultless u.names (replies u.names c.args.features.now) (trees_of u) c.in-Err.told c.in-Err.ensures (two_stages_faultless c.law_of_both_stages.ensures (answer_to c.args.features.now) u stages))

pub returns-in-Err-clause-staged_spelled_succeeds : goal.returns-in-Err-clause-staged_spelled_succeeds
returns-in-Err-clause-staged_spelled_succeeds c = λ no_error left.
    let u = unit_view c.args.unit.now in
    absurd (not_faultless u.names (replies u.names c.args.features.now) (trees_of u) c.in-Err.told c.in-Err.ensures (spelled_left_over_faultless c.law_of_faults.ensures c.law_of_later_stages.ensures (answer_to c.args.features.now) u no_error left))

pub returns-in-Err-clause-composed_spelled_succeeds : goal.returns-in-Err-clause-composed_spelled_succeeds
returns-in-Err-clause-composed_spelled_succeeds c = λ stages.
    let u = unit_view c.args.unit.now in
    absurd (not_faultless u.names (replies u.names c.args.features.now) (trees_of u) c.in-Err.told c.in-Err.ensures (spelled_two_stages_faultless c.law_of_faults.ensures c.law_of_both_stages.ensures (answer_to c.args.features.now) u stages))

pub returns-in-Err-clause-succeeds : goal.returns-in-Err-clause-succeeds
returns-in-Err-clause-succeeds c = λ faultless.
    let u = unit_view c.args.unit.now in
    absurd (not_faultless u.names (replies u.names c.args.features.now) (trees_of u) c.in-Err.told c.in-Err.ensures faultless)
