use Rattle.std.proofs.Common.{◌≡◌, ℕ, map, take}
use Rattle.wesl_scope_occurrences.specs.Views.{occurrence_view}
use Rattle.wesl_validate_rules.specs.Graphs.{graph_view, edges_at}
use Rattle.wesl_validate_calls.specs.Tables.{declaration_named, edges_of}
use Rattle.wesl_validate_calls.proofs.tables.declarers_of.Given as goal

abbrev pub invariant-loop-occurrence : goal.invariant-loop-occurrence
invariant-loop-occurrence l = (m : ℕ) → edges_at (graph_view l.declarers.items) m ≡ edges_of declaration_named m (map occurrence_view (take l.occurrence-index l.found.all.items))
