use Rattle.wesl_validate_rules.specs.Graphs.{graph_view}
use Rattle.wesl_validate_calls.specs.Judged.{ends_at}
use Rattle.wesl_validate_calls.specs.Views.{tables_view}
use Rattle.wesl_validate_calls.proofs.Taking.{AreSelves}
use Rattle.wesl_validate_calls.proofs.ends.ending.Given as goal

abbrev pub invariant-loop-number : goal.invariant-loop-number
invariant-loop-number l = AreSelves (ends_at (tables_view l.tables)) l.number (graph_view l.told.items)
