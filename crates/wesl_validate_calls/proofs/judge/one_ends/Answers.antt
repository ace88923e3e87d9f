use Rattle.std.proofs.Common.{map, not, sym, ap, ◌∙◌}
use Rattle.wesl_validate_rules.specs.Calls.{is_plain_alias}
use Rattle.wesl_validate_calls.specs.Tables.{shape_at}
use Rattle.wesl_validate_calls.specs.Views.{shape_view}
use Rattle.wesl_validate_calls.proofs.Searching.{any_found, any_none, any_on}
use Rattle.wesl_validate_calls.proofs.judge.one_ends.Goals as goal

pub loop-declaration-preserved : goal.loop-declaration-preserved
loop-declaration-preserved c = any_on c.deref-declaration-items.result.now c.args.declarers.now.items c.loop-declaration.declaration-index c.deref-declaration-items.ensures.value (λ j. not (is_plain_alias (shape_at (map shape_view c.args.shapes.now.items) j))) c.loop-declaration.invariant c.loop-declaration-test.true (ap not (sym (c.is_plain_alias.ensures ∙ ap is_plain_alias c.shape_at.ensures) ∙ c.if-not-is_plain_alias.false))

pub returns-then-not-is_plain_alias : goal.returns-then-not-is_plain_alias
returns-then-not-is_plain_alias c = any_found c.deref-declaration-items.result.now c.args.declarers.now.items c.loop-declaration.declaration-index c.deref-declaration-items.ensures.value (λ j. not (is_plain_alias (shape_at (map shape_view c.args.shapes.now.items) j))) c.loop-declaration.invariant c.loop-declaration-test.true (ap not (sym (c.is_plain_alias.ensures ∙ ap is_plain_alias c.shape_at.ensures) ∙ c.if-not-is_plain_alias.true))

pub returns : goal.returns
returns c = any_none c.deref-declaration-items.result.now c.args.declarers.now.items c.loop-declaration.declaration-index c.deref-declaration-items.ensures.value (λ j. not (is_plain_alias (shape_at (map shape_view c.args.shapes.now.items) j))) c.loop-declaration.invariant c.loop-declaration-test.false
