use Rattle.std.proofs.Common.{map, sym, ap, ◌∙◌}
use Rattle.wesl_validate_calls.specs.Judged.{count_of}
use Rattle.wesl_validate_calls.specs.Tables.{shape_at}
use Rattle.wesl_validate_calls.specs.Views.{shape_view}
use Rattle.wesl_validate_calls.proofs.Searching.{some_found, some_none, some_on}
use Rattle.wesl_validate_calls.proofs.judge.first_count.Goals as goal

pub loop-declaration-preserved : goal.loop-declaration-preserved
loop-declaration-preserved c = some_on c.deref-declaration-items.result.now c.args.declarers.now.items c.loop-declaration.declaration-index c.deref-declaration-items.ensures.value (λ j. count_of (shape_at (map shape_view c.args.shapes.now.items) j)) c.loop-declaration.invariant c.loop-declaration-test.true (sym (c.count_of.ensures ∙ ap count_of c.shape_at.ensures) ∙ c.in-None.is)

pub returns-in-Some : goal.returns-in-Some
returns-in-Some c = some_found c.deref-declaration-items.result.now c.args.declarers.now.items c.loop-declaration.declaration-index c.deref-declaration-items.ensures.value (λ j. count_of (shape_at (map shape_view c.args.shapes.now.items) j)) c.loop-declaration.invariant c.in-Some.count c.loop-declaration-test.true (sym (c.count_of.ensures ∙ ap count_of c.shape_at.ensures) ∙ c.in-Some.is)

pub returns : goal.returns
returns c = some_none c.deref-declaration-items.result.now c.args.declarers.now.items c.loop-declaration.declaration-index c.deref-declaration-items.ensures.value (λ j. count_of (shape_at (map shape_view c.args.shapes.now.items) j)) c.loop-declaration.invariant c.loop-declaration-test.false
