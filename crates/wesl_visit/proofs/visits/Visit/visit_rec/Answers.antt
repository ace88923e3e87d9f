use Rattle.std.proofs.Common.{◌∙◌, subst, take, true, arith}
use Rattle.std.proofs.lemmas.List.{take_all}
use Rattle.wesl_tree_syntax.specs.Nodes.{all_nodes}
use Rattle.wesl_visit.specs.Run.{Run, still}
use Rattle.wesl_visit_collect.specs.Seen.{below}
use Rattle.wesl_visit_collect.specs.Walk.{strictly}
use Rattle.wesl_visit_collect.specs.Sought.{test}
use Rattle.wesl_visit_collect.proofs.Joined.{all_found_below}
use Rattle.wesl_visit.proofs.Runs.{all_met, begun_by, begun_none, on_err, run_more}
use Rattle.wesl_visit.proofs.visits.Visit.visit_rec.Goals as goal

pub returns-in_err-nodes-clause-begun : goal.returns-in_err-nodes-clause-begun
returns-in_err-nodes-clause-begun g c =
    on_err c.from_residual.result (begun_none g.V.Visitor.meets g.V.Visitor.unchanged (all_nodes (test g.T.Kind.sought) (below g.T.Kind.sought (g.Self.Holder.tree c.args.self.now))) c.args.visitor.now (g.met.V.Visitor.stays c.args.visitor.now))

pub loop-node-init : goal.loop-node-init
loop-node-init g c = still

pub loop-node-preserved : goal.loop-node-preserved
loop-node-preserved g c =
    run_more g.V.Visitor.meets g.T.Kind.view c.deref-node-items.result.now c.loop-node.node-index c.node-item.result _ _ _ (omega arith) c.node-item.is c.loop-node.invariant c.in_ok-meet.ensures.met

pub returns-in_err-meet-clause-begun : goal.returns-in_err-meet-clause-begun
returns-in_err-meet-clause-begun g c =
    on_err c.from_residual-in_err-meet.result
    (begun_by g.V.Visitor.meets g.V.Visitor.unchanged g.T.Kind.view c.deref-node-items.result.now c.loop-node.node-index (all_nodes (test g.T.Kind.sought) (below g.T.Kind.sought (g.Self.Holder.tree c.args.self.now))) c.args.visitor.now c.loop-node.visitor c.meet.new.self
    (all_met g.T.Kind.view c.deref-node-items.result.now c.in_ok-nodes.nodes.items (strictly g.T.Kind.sought true (g.Self.Holder.tree c.args.self.now)) (all_nodes (test g.T.Kind.sought) (below g.T.Kind.sought (g.Self.Holder.tree c.args.self.now)))
    c.deref-node-items.ensures.value c.in_ok-nodes.ensures.listed (all_found_below g.T.Kind.sought (g.Self.Holder.tree c.args.self.now))) c.loop-node.invariant c.in_err-meet.ensures.kept)

pub returns-clause-met : goal.returns-clause-met
returns-clause-met g c =
    subst (λ zs. Run g.V.Visitor.meets zs c.args.visitor.now c.loop-node.visitor)
    (all_met g.T.Kind.view (take c.loop-node.node-index c.deref-node-items.result.now) c.in_ok-nodes.nodes.items (strictly g.T.Kind.sought true (g.Self.Holder.tree c.args.self.now)) (all_nodes (test g.T.Kind.sought) (below g.T.Kind.sought (g.Self.Holder.tree c.args.self.now)))
    (take_all c.loop-node.node-index c.deref-node-items.result.now (omega arith) ∙ c.deref-node-items.ensures.value) c.in_ok-nodes.ensures.listed (all_found_below g.T.Kind.sought (g.Self.Holder.tree c.args.self.now))) c.loop-node.invariant
