use Rattle.std.proofs.Common.{◌≡◌, ◌∙◌, ◌<◌, ◌≤◌, ◌++◌, ◌∷◌, [], length, get_or, ap, sym, arith}
use Rattle.std.specs.Prelude.{if◌then◌else◌}
use Rattle.std.specs.List.{filter}
use Rattle.std.proofs.lemmas.List.{take_all}
use Rattle.wesl_validate_faults.specs.Gathered.{have_one_group}
use Rattle.wesl_validate_faults.proofs.Closing.{filter_next}
use Rattle.wesl_validate_faults.proofs.closers.filtered.Goals as goal

pub loop-node-preserved : goal.loop-node-preserved
loop-node-preserved c =
    let at = c.loop-node in
    let ns = c.args.nodes.now.items in
    let p = have_one_group c.args.groups.now.items c.args.last in
    let same : c.deref-node-items.result.now ≡ ns = c.deref-node-items.ensures.value in
    let inside : at.node-index < length ns = omega (arith, ap length same, c.loop-node-test.true) in
    let x = get_or c.deref-node-items.result.now at.node-index 0 in
    c.in_ok-add_within.ensures ∙ (ap (λ xs. xs ++ (if p x then x ∷ [] else [])) at.invariant ∙ sym (filter_next p ns at.node-index x inside (ap (λ xs. get_or xs at.node-index 0) same)))

pub returns : goal.returns
returns c =
    let at = c.loop-node in
    let ns = c.args.nodes.now.items in
    let p = have_one_group c.args.groups.now.items c.args.last in
    let same : c.deref-node-items.result.now ≡ ns = c.deref-node-items.ensures.value in
    let over : length ns ≤ at.node-index = omega (arith, ap length same, c.loop-node-test.false) in
    at.invariant ∙ ap (filter p) (take_all at.node-index ns over)
