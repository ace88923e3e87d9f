use Rattle.std.proofs.Common.{◌∷◌, [], set, true, sym, subst}
use Rattle.wesl_scope_graph.specs.Marks.{Meets}
use Rattle.wesl_scope_graph.proofs.Meeting.{meets_new}
use Rattle.wesl_scope_graph.proofs.walk.enter.Goals as goal

pub returns : goal.returns
returns c =
    let ms = c.args.marks.now in
    let n = c.args.node in
    subst (λ ws. Meets (n ∷ []) ms (set ms n true) c.args.way.now.items ws) (sym c.in_ok-push.ensures.items)
    (meets_new n ms c.args.way.now.items c.if-node-marks.false c.if-marks-node.false)
