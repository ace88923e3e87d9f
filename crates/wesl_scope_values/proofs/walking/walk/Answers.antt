use Rattle.std.proofs.Common.{◌≡◌, ◌<◌, ◌≤◌, length, get_or, ap, ◌∙◌, arith, add-one}
use Rattle.std.proofs.lemmas.List.{get_or_read}
use Rattle.wesl_scope_graph.specs.Graphs.{graph_view, edges_at}
use Rattle.wesl_scope_values.specs.Walks.{visits, all_entered}
use Rattle.wesl_scope_values.proofs.Walked.{begins, step, smaller, ended}
use Rattle.wesl_scope_values.proofs.walking.walk.Goals as goal

pub loop-next-init : goal.loop-next-init
loop-next-init c = begins (graph_view c.args.graph.now.items) c.args.first.now.items c.new-nodes.result.items c.args.marks.now (visits c.enter_all.new.marks c.enter_all.new.nodes.items) c.new-nodes.ensures.items c.in_ok-enter_all.ensures

pub loop-next-smaller : goal.loop-next-smaller
loop-next-smaller c =
    let g = graph_view c.args.graph.now.items in
    let s = visits c.loop-next.marks c.loop-next.nodes.items in
    let t = visits c.spread.new.marks c.spread.new.nodes.items in
    let inside : c.loop-next.next < length c.loop-next.nodes.items = omega (arith, c.loop-next-test.true, c.len.ensures) in
    let from : c.index-from.result.now ≡ get_or c.loop-next.nodes.items c.loop-next.next 0 = get_or_read c.loop-next.nodes.items c.loop-next.next c.index-from.result.now inside c.index-from.ensures 0 in
    let entered : t ≡ all_entered (edges_at g (get_or c.loop-next.nodes.items c.loop-next.next 0)) s = c.in_ok-spread.ensures ∙ ap (λ n. all_entered (edges_at g n) s) from in
    rw add-one (smaller g c.args.first.now.items c.args.marks.now c.loop-next.next s t c.requires.graph c.requires.sized c.loop-next.invariant inside entered)

pub loop-next-preserved : goal.loop-next-preserved
loop-next-preserved c =
    let g = graph_view c.args.graph.now.items in
    let s = visits c.loop-next.marks c.loop-next.nodes.items in
    let t = visits c.spread.new.marks c.spread.new.nodes.items in
    let inside : c.loop-next.next < length c.loop-next.nodes.items = omega (arith, c.loop-next-test.true, c.len.ensures) in
    let from : c.index-from.result.now ≡ get_or c.loop-next.nodes.items c.loop-next.next 0 = get_or_read c.loop-next.nodes.items c.loop-next.next c.index-from.result.now inside c.index-from.ensures 0 in
    let entered : t ≡ all_entered (edges_at g (get_or c.loop-next.nodes.items c.loop-next.next 0)) s = c.in_ok-spread.ensures ∙ ap (λ n. all_entered (edges_at g n) s) from in
    rw add-one (step g c.args.first.now.items c.args.marks.now c.loop-next.next s t c.requires.graph c.requires.sized c.loop-next.invariant inside entered)

pub returns : goal.returns
returns c =
    let over : length c.loop-next.nodes.items ≤ c.loop-next.next = omega (arith, c.loop-next-test.false, c.len.ensures) in
    ended (graph_view c.args.graph.now.items) c.args.first.now.items c.args.marks.now c.loop-next.next (visits c.loop-next.marks c.loop-next.nodes.items) c.loop-next.invariant over
