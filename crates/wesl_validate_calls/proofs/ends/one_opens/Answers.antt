use Rattle.std.proofs.Common.{map, sym, ap, ◌∙◌}
use Rattle.wesl_validate_calls.specs.Ends.{is_open}
use Rattle.wesl_validate_calls.specs.Tables.{shape_at}
use Rattle.wesl_validate_calls.specs.Views.{shape_view}
use Rattle.wesl_validate_calls.proofs.Searching.{any_found, any_none, any_on}
use Rattle.wesl_validate_calls.proofs.ends.one_opens.Goals as goal

pub loop-declaration-preserved : goal.loop-declaration-preserved
loop-declaration-preserved c = any_on c.deref-declaration-items.result.now c.args.declarers.now.items c.loop-declaration.declaration-index c.deref-declaration-items.ensures.value (λ j. is_open (shape_at (map shape_view c.args.shapes.now.items) j)) c.loop-declaration.invariant c.loop-declaration-test.true (sym (c.is_open.ensures ∙ ap is_open c.shape_at.ensures) ∙ c.if-is_open.false)

pub returns-then-is_open : goal.returns-then-is_open
returns-then-is_open c = any_found c.deref-declaration-items.result.now c.args.declarers.now.items c.loop-declaration.declaration-index c.deref-declaration-items.ensures.value (λ j. is_open (shape_at (map shape_view c.args.shapes.now.items) j)) c.loop-declaration.invariant c.loop-declaration-test.true (sym (c.is_open.ensures ∙ ap is_open c.shape_at.ensures) ∙ c.if-is_open.true)

pub returns : goal.returns
returns c = any_none c.deref-declaration-items.result.now c.args.declarers.now.items c.loop-declaration.declaration-index c.deref-declaration-items.ensures.value (λ j. is_open (shape_at (map shape_view c.args.shapes.now.items) j)) c.loop-declaration.invariant c.loop-declaration-test.false
