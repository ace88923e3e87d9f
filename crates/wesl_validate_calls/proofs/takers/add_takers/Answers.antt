use Rattle.std.proofs.Common.{◌≡◌, ◌<◌, ◌≤◌, length, get_or, map, ap, subst, arith}
use Rattle.std.proofs.lemmas.List.{take_all}
use Rattle.wesl_validate_rules.specs.Graphs.{graph_view}
use Rattle.wesl_validate_calls.specs.Ends.{AddsTaker, AddsTakers}
use Rattle.wesl_validate_calls.specs.Views.{shape_view}
use Rattle.wesl_validate_calls.proofs.Taking.{takers_none, takers_next}
use Rattle.wesl_validate_calls.proofs.takers.add_takers.Goals as goal

pub loop-declaration-init : goal.loop-declaration-init
loop-declaration-init c = takers_none (map shape_view c.args.shapes.now.items) c.args.number (graph_view c.args.takers.now.items)

pub loop-declaration-preserved : goal.loop-declaration-preserved
loop-declaration-preserved c =
    let at = c.loop-declaration in
    let js = c.args.declarers.now.items in
    let shapes = map shape_view c.args.shapes.now.items in
    let same : c.deref-declaration-items.result.now ≡ js = c.deref-declaration-items.ensures.value in
    let inside : at.declaration-index < length js = omega (arith, ap length same, c.loop-declaration-test.true) in
    let j = get_or c.deref-declaration-items.result.now at.declaration-index 0 in
    let added = subst (λ s. AddsTaker s c.args.number (graph_view at.takers.items) (graph_view c.add_taker.new.takers.items)) c.shape_at.ensures c.in_ok-add_taker.ensures in
    takers_next shapes c.args.number js at.declaration-index j (graph_view c.args.takers.now.items) (graph_view at.takers.items) (graph_view c.add_taker.new.takers.items) inside (ap (λ xs. get_or xs at.declaration-index 0) same) at.invariant added

pub returns : goal.returns
returns c =
    let at = c.loop-declaration in
    let js = c.args.declarers.now.items in
    let same : c.deref-declaration-items.result.now ≡ js = c.deref-declaration-items.ensures.value in
    let over : length js ≤ at.declaration-index = omega (arith, ap length same, c.loop-declaration-test.false) in
    subst (λ xs. AddsTakers (map shape_view c.args.shapes.now.items) xs c.args.number (graph_view c.args.takers.now.items) (graph_view at.takers.items)) (take_all at.declaration-index js over) at.invariant
