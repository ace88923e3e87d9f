use Rattle.wesl_explain_world.proofs.Told.{held_same}
use Rattle.wesl_explain_world.proofs.holding.held_in.Goals as goal
use Rattle.wesl_explain_world.proofs.holding.held_in.Goals.{in-Some+in_ok-add_held, in_default}

pub loop-path-preserved : goal.loop-path-preserved
loop-path-preserved c =
    let world = c.args.world.now in
    elim c.match-table.branch [
      | in-Some+in_ok-add_held w ↦ held_same world _ _ w.held-is (w.in_ok-add_held.ensures w.in-Some.ensures c.loop-path.invariant)
      | in_default w ↦ held_same world _ _ w.held-is c.loop-path.invariant
    ]
