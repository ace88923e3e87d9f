use Rattle.std.proofs.Common.{◌≡◌, length, ap, refl, arith}
use Rattle.wesl_validate_rules.specs.Graphs.{graph_view}
use Rattle.wesl_validate_calls.specs.Judged.{ends_at}
use Rattle.wesl_validate_calls.specs.Views.{tables_view}
use Rattle.wesl_validate_calls.proofs.Taking.{selves_none, selves_next, ending_all}
use Rattle.wesl_validate_calls.proofs.ends.ending.Goals as goal

pub loop-number-init : goal.loop-number-init
loop-number-init c = selves_none (ends_at (tables_view c.args.tables.now)) (graph_view c.new-told.result.items) (ap graph_view c.new-told.ensures.items)

pub loop-number-preserved : goal.loop-number-preserved
loop-number-preserved c =
    let at = c.loop-number in
    let t = tables_view c.args.tables.now in
    selves_next (ends_at t) at.number c.ends_at-is_one.result (graph_view at.told.items) (graph_view c.add_itself.new.told.items) c.ends_at-is_one.ensures at.invariant c.in_ok-add_itself.ensures

pub returns : goal.returns
returns c =
    let t = c.args.tables.now in
    let over : c.loop-number.number ≡ length t.aliases.items = omega (arith, c.loop-number-test.false, c.len-number-end.ensures, c.loop-number.auto.number-end) in
    ending_all (tables_view t) t.aliases.items refl c.loop-number.number over (graph_view c.loop-number.told.items) c.loop-number.invariant
