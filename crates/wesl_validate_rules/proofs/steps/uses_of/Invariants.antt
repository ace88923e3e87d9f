use Rattle.std.proofs.Common.{◌≡◌, ℕ, map, take}
use Rattle.wesl_scope_occurrences.specs.Views.{occurrence_view}
use Rattle.wesl_validate_rules.specs.Graphs.{graph_view, edges_at}
use Rattle.wesl_validate_rules.specs.Steps.{referred}
use Rattle.wesl_validate_rules.proofs.steps.uses_of.Given as goal

abbrev pub invariant-loop-occurrence : goal.invariant-loop-occurrence
invariant-loop-occurrence l = (j : ℕ) → edges_at (graph_view l.uses.items) j ≡ referred (map occurrence_view (take l.occurrence-index l.found.all.items)) j
