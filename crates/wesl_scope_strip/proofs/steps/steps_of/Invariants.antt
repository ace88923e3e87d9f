use Rattle.std.proofs.Common.{◌↔◌, ℕ, map, take}
use Rattle.wesl_scope_graph.specs.Graphs.{graph_view, Leads}
use Rattle.wesl_scope_occurrences.specs.Views.{occurrence_view}
use Rattle.wesl_scope_strip.specs.Steps.{IsStepOf}
use Rattle.wesl_scope_strip.proofs.steps.steps_of.Given as goal

abbrev pub invariant-loop-occurrence : goal.invariant-loop-occurrence
invariant-loop-occurrence l = (a b : ℕ) → Leads (graph_view l.graph.items) a b ↔ IsStepOf l.count a b (map occurrence_view (take l.occurrence-index l.all))
