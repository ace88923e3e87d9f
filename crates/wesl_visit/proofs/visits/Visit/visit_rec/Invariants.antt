use Rattle.std.proofs.Common.{take}
use Rattle.wesl_visit_collect.specs.Lent.{views}
use Rattle.wesl_visit.specs.Run.{Run}
use Rattle.wesl_visit.proofs.visits.Visit.visit_rec.Given as goal

abbrev pub invariant-loop-node : goal.invariant-loop-node
invariant-loop-node g l = Run g.V.Visitor.meets (views g.T.Kind.view (take l.node-index l.node-items)) l.initial.visitor l.visitor
