use Rattle.wesl_scope_graph.specs.Graphs.{graph_view}
use Rattle.wesl_scope_occurrences.specs.Views.{occurrence_view}
use Rattle.wesl_scope_strip.proofs.Stepping.{steps_next, steps_all}
use Rattle.wesl_scope_strip.proofs.steps.steps_of.Goals as goal

pub loop-occurrence-preserved : goal.loop-occurrence-preserved
loop-occurrence-preserved c =
    let at = c.loop-occurrence in
    steps_next occurrence_view c.args.count (graph_view at.graph.items) (graph_view c.add_step.new.graph.items) c.args.all.now at.occurrence-index c.occurrence-item.result
    c.loop-occurrence-test.true c.occurrence-item.is at.invariant c.in_ok-add_step.ensures.added

pub returns : goal.returns
returns c =
    let at = c.loop-occurrence in
    record { steps = steps_all occurrence_view c.args.count (graph_view at.graph.items) c.args.all.now at.occurrence-index c.loop-occurrence-test.false at.invariant }
