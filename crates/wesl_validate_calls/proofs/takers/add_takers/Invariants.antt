use Rattle.std.proofs.Common.{map, take}
use Rattle.wesl_validate_rules.specs.Graphs.{graph_view}
use Rattle.wesl_validate_calls.specs.Ends.{AddsTakers}
use Rattle.wesl_validate_calls.specs.Views.{shape_view}
use Rattle.wesl_validate_calls.proofs.takers.add_takers.Given as goal

abbrev pub invariant-loop-declaration : goal.invariant-loop-declaration
invariant-loop-declaration l = AddsTakers (map shape_view l.shapes.items) (take l.declaration-index l.declarers.items) l.number (graph_view l.initial.takers.items) (graph_view l.takers.items)
