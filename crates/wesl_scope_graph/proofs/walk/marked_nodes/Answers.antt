use Rattle.std.proofs.Common.{◌≡◌, ◌+◌, ◌<◌, ◌↔◌, ◌∙◌, ℕ, true, ap, sym, subst}
use Rattle.std.specs.List.{Contains}
use Rattle.wesl_scope_graph.specs.Marks.{mark_at}
use Rattle.wesl_scope_graph.proofs.Meeting.{listed_next, listed_same, listed_all}
use Rattle.wesl_scope_graph.proofs.walk.marked_nodes.Goals as goal
use Rattle.wesl_scope_graph.proofs.walk.marked_nodes.Goals.{then-marks-node+in_ok-push, else-marks-node}

pub loop-node-preserved : goal.loop-node-preserved
loop-node-preserved c =
    let ms = c.args.marks.now in
    let i = c.loop-node.node in
    elim c.if-marks-node.branch [
      | then-marks-node+in_ok-push w ↦ subst (λ ws. (a : ℕ) → Contains ws a ↔ ((a < i + 1) × (mark_at ms a ≡ true))) (sym (ap (λ v. v.items) w.nodes-is ∙ w.in_ok-push.ensures.items)) (listed_next ms c.loop-node.nodes.items i w.if-marks-node.true c.loop-node.invariant)
      | else-marks-node w ↦ subst (λ ws. (a : ℕ) → Contains ws a ↔ ((a < i + 1) × (mark_at ms a ≡ true))) (sym (ap (λ v. v.items) w.nodes-is)) (listed_same ms c.loop-node.nodes.items i w.if-marks-node.false c.loop-node.invariant)
    ]

pub returns : goal.returns
returns c = listed_all c.args.marks.now c.loop-node.nodes.items c.loop-node.node c.loop-node-test.false c.loop-node.invariant
