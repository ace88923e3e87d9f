use Rattle.wesl_validate_rules.specs.Graphs.{graph_view}
use Rattle.wesl_validate_calls.specs.Views.{tables_view}
use Rattle.wesl_validate_calls.proofs.Taking.{AreTakersBelow}
use Rattle.wesl_validate_calls.proofs.takers.takers_of.Given as goal

abbrev pub invariant-loop-number : goal.invariant-loop-number
invariant-loop-number l = AreTakersBelow (tables_view l.tables) l.number (graph_view l.takers.items)
