use Rattle.std.proofs.Common.{◌≤◌, length, ap, refl, arith}
use Rattle.wesl_validate_rules.specs.Graphs.{graph_view}
use Rattle.wesl_validate_calls.specs.Ends.{counts_at}
use Rattle.wesl_validate_calls.specs.Views.{tables_view}
use Rattle.wesl_validate_calls.proofs.Taking.{selves_none, selves_next, counting_all}
use Rattle.wesl_validate_calls.proofs.ends.counting.Goals as goal

pub loop-number-init : goal.loop-number-init
loop-number-init c = selves_none (counts_at (tables_view c.args.tables.now)) (graph_view c.new-told.result.items) (ap graph_view c.new-told.ensures.items)

pub loop-number-preserved : goal.loop-number-preserved
loop-number-preserved c =
    let at = c.loop-number in
    let t = tables_view c.args.tables.now in
    selves_next (counts_at t) at.number c.counts_at-is_one.result (graph_view at.told.items) (graph_view c.add_itself.new.told.items) c.counts_at-is_one.ensures at.invariant c.in_ok-add_itself.ensures

pub returns : goal.returns
returns c =
    let t = c.args.tables.now in
    let over : length t.declarers.items ≤ c.loop-number.number = omega (arith, c.loop-number-test.false, c.len-number-end.ensures) in
    counting_all (tables_view t) t.declarers.items refl c.loop-number.number over (graph_view c.loop-number.told.items) c.loop-number.invariant
