use Rattle.std.proofs.Common.{◌≡◌, drop}
use Rattle.wesl_cond_chains.specs.Nodes.{attributes_forest}
use Rattle.wesl_cond_faults.proofs.Spans.{span_after}
use Rattle.wesl_cond_faults.specs.Places.{condition_spans, second_or_only}
use Rattle.wesl_cond_faults.proofs.attributes.condition_span.Given as goal

abbrev pub invariant-loop-attribute : goal.invariant-loop-attribute
invariant-loop-attribute l = second_or_only (condition_spans (attributes_forest l.attributes)) ≡ span_after l.seen l.only (condition_spans (attributes_forest (drop l.attribute-index l.attributes)))
