use Rattle.wesl_explain_world.specs.Explained.{AddsHeld}
use Rattle.wesl_explain_world.proofs.holding.add_held.Given as goal

abbrev pub invariant-loop-declaration : goal.invariant-loop-declaration
invariant-loop-declaration l = AddsHeld l.world l.table l.initial.held.items l.held.items
