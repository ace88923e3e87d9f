use Rattle.std.proofs.Common.{◌≡◌, ◌∙◌, ◌++◌, ◌<◌, ◌==◌, [], length, get_or, map, take, ap, sym, arith}
use Rattle.std.specs.Prelude.{if◌then◌else◌}
use Rattle.wesl_scope_occurrences.specs.Views.{occurrence_view}
use Rattle.wesl_validate_calls.specs.Tables.{declaration_named, one_or_none, edges_here, edges_of}
use Rattle.wesl_validate_calls.proofs.Tabling.{joined_next}
use Rattle.wesl_validate_calls.proofs.tables.declarers_of.Goals as goal

pub loop-occurrence-preserved : goal.loop-occurrence-preserved
loop-occurrence-preserved c =
    let found = c.args.found.now.all.items in
    let i = c.loop-occurrence.occurrence-index in
    let same : c.deref-occurrence-items.result.now ≡ found = c.deref-occurrence-items.ensures.value in
    let inside : i < length found = omega (arith, ap length same) in
    let item = c.occurrence-item.result in
    let is : item ≡ get_or found i item = c.occurrence-item.is ∙ ap (λ xs. get_or xs i item) same in
    λ m.
    c.in_ok-add_target.ensures.added m
    ∙ (ap (λ ns. ns ++ (if item.ident.0 == m then one_or_none c.declaration_named-declaration.result else [])) (c.loop-occurrence.invariant m)
    ∙ (ap (λ t. edges_of declaration_named m (map occurrence_view (take i found)) ++ (if item.ident.0 == m then one_or_none t else [])) c.declaration_named-declaration.ensures
    ∙ sym (joined_next occurrence_view (edges_here declaration_named m) found i item inside is)))
