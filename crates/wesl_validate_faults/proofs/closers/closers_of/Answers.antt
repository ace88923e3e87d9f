use Rattle.std.proofs.Common.{◌≡◌, ◌<◌, ◌≤◌, length, get_or, ap, subst, arith}
use Rattle.std.proofs.lemmas.List.{take_all}
use Rattle.wesl_scope_graph.specs.Graphs.{graph_view}
use Rattle.wesl_scope_values.specs.Values.{value_at}
use Rattle.wesl_validate_rules.specs.Graphs.{IsRing}
use Rattle.wesl_validate_faults.specs.Listed.{IsFirst}
use Rattle.wesl_validate_faults.proofs.Closing.{next}
use Rattle.wesl_validate_faults.proofs.closers.closers_of.Goals as goal

pub loop-last-preserved : goal.loop-last-preserved
loop-last-preserved c =
    let at = c.loop-last in
    let ns = c.args.nodes.now.items in
    let same : c.deref-last-items.result.now ≡ ns = c.deref-last-items.ensures.value in
    let inside : at.last-index < length ns = omega (arith, ap length same, c.loop-last-test.true) in
    let x = get_or c.deref-last-items.result.now at.last-index 0 in
    next (graph_view c.args.graph.now.items) ns at.last-index x at.taken.items c.note_closer.new.taken.items at.closers.items c.note_closer.new.closers.items inside (ap (λ xs. get_or xs at.last-index 0) same) at.invariant c.in_ok-note_closer.ensures

pub returns : goal.returns
returns c =
    let at = c.loop-last in
    let ns = c.args.nodes.now.items in
    let same : c.deref-last-items.result.now ≡ ns = c.deref-last-items.ensures.value in
    let over : length ns ≤ at.last-index = omega (arith, ap length same, c.loop-last-test.false) in
    λ n. subst (λ xs. IsFirst (IsRing (graph_view c.args.graph.now.items) n) xs (value_at at.closers.items n)) (take_all at.last-index ns over) (at.invariant.first n)
