use Rattle.std.proofs.Common.{◌≡◌, ◌<◌, ◌≤◌, length, get_or, ap, arith, sym, subst, refl}
use Rattle.wesl_scope_graph.specs.Graphs.{graph_view}
use Rattle.wesl_validate_rules.specs.Graphs.{IsRing}
use Rattle.wesl_validate_faults.specs.Gathered.{findings_view}
use Rattle.wesl_validate_faults.specs.Listed.{IsFirst}
use Rattle.wesl_validate_faults.proofs.Rings.{owes_all, owes_next, owes_none}
use Rattle.wesl_validate_faults.proofs.cycles.add_rings.Goals as goal

pub loop-number-init : goal.loop-number-init
loop-number-init c = owes_all c.args.names.now (graph_view c.args.graph.now.items) c.args.declared.now.items (findings_view c.args.findings.now.items) 0 refl

pub loop-number-preserved : goal.loop-number-preserved
loop-number-preserved c =
    let ds = c.args.declared.now.items in
    let i = c.loop-number.number-index in
    let same : c.deref-number-items.result.now ≡ ds = c.deref-number-items.ensures.value in
    let inside : i < length ds = omega (arith, ap length same) in
    let x = get_or c.deref-number-items.result.now i 0 in
    let closes = subst (IsFirst (IsRing (graph_view c.args.graph.now.items) x) ds) (sym c.value_of-last.ensures) (c.in_ok-closers.ensures x) in
    owes_next c.args.names.now (graph_view c.args.graph.now.items) ds (findings_view c.args.findings.now.items) (findings_view c.loop-number.findings.items) (findings_view c.add_cycle.new.findings.items) i x c.value_of-last.result inside
    (ap (λ xs. get_or xs i 0) same) closes c.in_ok-add_cycle.ensures c.loop-number.invariant

pub returns : goal.returns
returns c =
    let ds = c.args.declared.now.items in
    let i = c.loop-number.number-index in
    let past : length ds ≤ i = subst (λ xs. length xs ≤ i) c.deref-number-items.ensures.value c.loop-number-test.false in
    owes_none c.args.names.now (graph_view c.args.graph.now.items) ds (findings_view c.args.findings.now.items) (findings_view c.loop-number.findings.items) i past c.loop-number.invariant
