use Rattle.std.proofs.Common.{◌≡◌, ◌∙◌, ◌++◌, ◌<◌, ◌==◌, [], length, get_or, map, take, ap, sym, arith}
use Rattle.std.specs.Prelude.{if◌then◌else◌}
use Rattle.wesl_scope_occurrences.specs.Views.{occurrence_view}
use Rattle.wesl_validate_calls.specs.Tables.{alias_target, one_or_none, edges_here, edges_of}
use Rattle.wesl_validate_calls.specs.Views.{shape_view}
use Rattle.wesl_validate_calls.proofs.Tabling.{joined_next}
use Rattle.wesl_validate_calls.proofs.tables.aliases_of.Goals as goal

pub loop-occurrence-preserved : goal.loop-occurrence-preserved
loop-occurrence-preserved c =
    let found = c.args.found.now.all.items in
    let shapes = map shape_view c.args.shapes.now.items in
    let i = c.loop-occurrence.occurrence-index in
    let same : c.deref-occurrence-items.result.now ≡ found = c.deref-occurrence-items.ensures.value in
    let inside : i < length found = omega (arith, ap length same) in
    let item = c.occurrence-item.result in
    let is : item ≡ get_or found i item = c.occurrence-item.is ∙ ap (λ xs. get_or xs i item) same in
    record {
      edges = λ m.
          c.in_ok-add_target.ensures.added m
          ∙ (ap (λ ns. ns ++ (if item.ident.0 == m then one_or_none c.alias_target-target.result else [])) (c.loop-occurrence.invariant.edges m)
          ∙ (ap (λ t. edges_of (alias_target shapes) m (map occurrence_view (take i found)) ++ (if item.ident.0 == m then one_or_none t else [])) c.alias_target-target.ensures
          ∙ sym (joined_next occurrence_view (edges_here (alias_target shapes) m) found i item inside is)));
      closed = c.in_ok-add_target.ensures.closed c.loop-occurrence.invariant.closed;
    }
