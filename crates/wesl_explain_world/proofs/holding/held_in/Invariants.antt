use Rattle.std.specs.Prelude.{All}
use Rattle.wesl_explain_world.specs.Explained.{IsHeldIn}
use Rattle.wesl_explain_world.proofs.holding.held_in.Given as goal

abbrev pub invariant-loop-path : goal.invariant-loop-path
invariant-loop-path l = All (IsHeldIn l.world) l.held.items
