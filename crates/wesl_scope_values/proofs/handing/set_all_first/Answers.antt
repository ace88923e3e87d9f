use Rattle.std.proofs.Common.{◌≡◌, ◌<◌, ◌≤◌, length, get_or, ap, subst, arith}
use Rattle.std.proofs.lemmas.List.{take_all}
use Rattle.wesl_scope_values.specs.Walks.{SetsFirst}
use Rattle.wesl_scope_values.proofs.HandedOn.{sets_none, sets_next}
use Rattle.wesl_scope_values.proofs.handing.set_all_first.Goals as goal

pub loop-node-init : goal.loop-node-init
loop-node-init c = sets_none c.args.value c.args.values.now.items

pub loop-node-preserved : goal.loop-node-preserved
loop-node-preserved c =
    let at = c.loop-node in
    let ns = c.args.nodes.now.items in
    let same : c.deref-node-items.result.now ≡ ns = c.deref-node-items.ensures.value in
    let inside : at.node-index < length ns = omega (arith, ap length same, c.loop-node-test.true) in
    sets_next ns at.node-index _ c.args.value c.args.values.now.items at.values.items c.set_first.new.values.items inside (ap (λ xs. get_or xs at.node-index 0) same) at.invariant c.in_ok-set_first.ensures

pub returns : goal.returns
returns c =
    let at = c.loop-node in
    let ns = c.args.nodes.now.items in
    let same : c.deref-node-items.result.now ≡ ns = c.deref-node-items.ensures.value in
    let over : length ns ≤ at.node-index = omega (arith, ap length same, c.loop-node-test.false) in
    subst (λ xs. SetsFirst xs c.args.value c.args.values.now.items at.values.items) (take_all at.node-index ns over) at.invariant
