use Rattle.wesl_explain_world.proofs.Told.{held_more, held_told, held_same}
use Rattle.wesl_explain_world.proofs.holding.add_held.Goals as goal
use Rattle.wesl_explain_world.proofs.holding.add_held.Goals.{then-holds+in_ok-told+in_ok-push, else-holds}

pub loop-declaration-preserved : goal.loop-declaration-preserved
loop-declaration-preserved c =
    let world = c.args.world.now in
    λ there before.
    elim c.if-holds.branch [
      | then-holds+in_ok-told+in_ok-push w ↦
          held_same world _ _ w.held-is
          (held_more world _ _ w.in_ok-told.field-0 w.in_ok-push.ensures.items (c.loop-declaration.invariant there before)
          (held_told world c.args.table.now w.in_ok-told.field-0 c.path-path.result c.name-name.result there c.path-path.ensures w.in_ok-told.ensures (c.holds.ensures.0 w.if-holds.true)))
      | else-holds w ↦ held_same world _ _ w.held-is (c.loop-declaration.invariant there before)
    ]
