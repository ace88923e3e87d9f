use Rattle.std.proofs.Common.{◌≡◌, ◌∙◌, ◌++◌, ◌<◌, ℕ, length, get_or, map, ap, sym, arith}
use Rattle.std.specs.Prelude.{flat_map}
use Rattle.std.proofs.lemmas.Grind.{common_steps}
use Rattle.wesl_scope_occurrences.specs.Views.{occurrence_view}
use Rattle.wesl_validate_rules.specs.Graphs.{graph_view, edges_at}
use Rattle.wesl_validate_rules.specs.Steps.{used_by, steps_here}
use Rattle.wesl_validate_rules.proofs.Stepping.{same_listed, joined_next}
use Rattle.wesl_validate_rules.proofs.steps.steps_of.Goals as goal

pub returns-clause-steps : goal.returns-clause-steps
returns-clause-steps c =
    let os = map occurrence_view c.args.found.now.all.items in
    let uses = graph_view c.in_ok-uses.uses.items in
    λ a.
    let e : edges_at (graph_view c.loop-occurrence.graph.items) a ≡ flat_map (steps_here (used_by uses) a) os = grind (arith, common_steps, c.loop-occurrence.invariant.added a) in
    e ∙ same_listed uses os c.in_ok-uses.ensures a os

pub loop-occurrence-preserved : goal.loop-occurrence-preserved
loop-occurrence-preserved c =
    let found = c.args.found.now.all.items in
    let i = c.loop-occurrence.occurrence-index in
    let same : c.deref-occurrence-items.result.now ≡ found = c.deref-occurrence-items.ensures.value in
    let inside : i < length found = omega (arith, ap length same) in
    let item = c.occurrence-item.result in
    let is : item ≡ get_or found i item = c.occurrence-item.is ∙ ap (λ xs. get_or xs i item) same in
    let added = λ (a : ℕ). steps_here (used_by (graph_view c.in_ok-uses.uses.items)) a in
    record {
      added = λ a.
          c.in_ok-add_steps.ensures.added a
          ∙ (ap (λ ns. ns ++ added a (occurrence_view item)) (c.loop-occurrence.invariant.added a)
          ∙ sym (joined_next occurrence_view (added a) found i item inside is));
      closed = c.in_ok-add_steps.ensures.closed c.loop-occurrence.invariant.closed;
    }
