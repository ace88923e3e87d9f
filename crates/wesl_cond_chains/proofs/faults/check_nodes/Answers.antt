use Rattle.std.proofs.Common.{arith, subst, Bool, false, Ok, Err}
use Rattle.wesl_cond_chains.specs.Judging.{ListBegins}
use Rattle.wesl_cond_chains.specs.Nodes.{replies}
use Rattle.wesl_cond_chains.proofs.Begun.{nodes_of, begun_next, begun_refused, begun_all}
use Rattle.wesl_cond_chains.proofs.faults.check_nodes.Goals as goal

pub returns-in-Err : goal.returns-in-Err
returns-in-Err g c =
    let names = c.args.names.now in
    let reply = replies names c.args.features.now in
    let view = g.T.Conditional.tree in
    subst (λ xs. (closes : Bool) → ListBegins names reply false (nodes_of reply view names closes xs) (Err c.in-Err.fault)) c.deref-node-items.ensures.value
    (begun_refused reply view names c.deref-node-items.result.now c.loop-node.node-index c.loop-node.opened c.node-item.result c.in-Err.fault (omega arith) c.node-item.is c.loop-node.invariant c.in-Err.ensures)

pub loop-node-preserved : goal.loop-node-preserved
loop-node-preserved g c =
    let names = c.args.names.now in
    begun_next (replies names c.args.features.now) g.T.Conditional.tree names c.deref-node-items.result.now c.loop-node.node-index c.loop-node.opened c.in-Ok.after c.node-item.result (omega arith) c.node-item.is c.loop-node.invariant c.in-Ok.ensures

pub returns : goal.returns
returns g c =
    let names = c.args.names.now in
    let reply = replies names c.args.features.now in
    let view = g.T.Conditional.tree in
    subst (λ xs. (closes : Bool) → ListBegins names reply false (nodes_of reply view names closes xs) (Ok c.loop-node.opened)) c.deref-node-items.ensures.value
    (begun_all reply view names c.deref-node-items.result.now c.loop-node.node-index c.loop-node.opened (omega arith) c.loop-node.invariant)
