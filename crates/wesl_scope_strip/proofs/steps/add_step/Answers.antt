use Rattle.std.proofs.Common.{sym, ◌∙◌}
use Rattle.std.proofs.lemmas.Result.{IfOk-weaker}
use Rattle.wesl_scope_graph.specs.Graphs.{graph_view}
use Rattle.wesl_scope_occurrences.specs.Views.{occurrence_view}
use Rattle.wesl_scope_strip.proofs.Stepping.{adds_reference, adds_name}
use Rattle.wesl_scope_strip.proofs.steps.add_step.Goals as goal

pub returns-then-is_reference : goal.returns-then-is_reference
returns-then-is_reference c =
    let o = occurrence_view c.args.occurrence.now in
    let e = c.add_edge in
    record {
      added = IfOk-weaker e.result _ _
          (λ x h. adds_reference (graph_view c.args.graph.now.items) c.args.count o (graph_view e.new.graph.items) c.in-Some.declaration c.in-Some.is c.if-declaration-count.false (sym c.is_reference.ensures ∙ c.if-is_reference.true) h)
          e.ensures.added;
    }

pub returns-then-is_module_name : goal.returns-then-is_module_name
returns-then-is_module_name c =
    let o = occurrence_view c.args.occurrence.now in
    let e = c.add_edge-then-is_module_name in
    record {
      added = IfOk-weaker e.result _ _
          (λ x h. adds_name (graph_view c.args.graph.now.items) c.args.count o (graph_view e.new.graph.items) c.in-Some.declaration c.in-Some.is c.if-declaration-count.false (sym c.is_module_name.ensures ∙ c.if-is_module_name.true) h)
          e.ensures.added;
    }
