use Rattle.std.proofs.Common.{refl, sym, ◌∙◌}
use Rattle.wesl_tree_syntax.specs.Tree.{declaration_node}
use Rattle.wesl_tree_syntax.specs.View.{global_view, placed}
use Rattle.wesl_tree_bounds.proofs.Below.{end_below, next_below, not_below, placed_below}
use Rattle.wesl_tree_bounds.proofs.statement_bounds.declarations_are_below.Goals as goal

pub loop-declaration-init : goal.loop-declaration-init
loop-declaration-init c = refl

pub loop-declaration-preserved : goal.loop-declaration-preserved
loop-declaration-preserved c =
    next_below (placed global_view declaration_node) c.args.bound c.deref-declaration-items.result.now c.loop-declaration.declaration-index c.declaration-item.result c.loop-declaration-test.true c.declaration-item.is (placed_below global_view declaration_node c.args.bound c.declaration-item.result ∙ sym c.global_is_below.ensures ∙ c.if-not-global_is_below.false) c.loop-declaration.invariant

pub returns-then-not-global_is_below : goal.returns-then-not-global_is_below
returns-then-not-global_is_below c =
    not_below (placed global_view declaration_node) c.args.bound c.deref-declaration-items.result.now c.args.declarations.now.items c.loop-declaration.declaration-index c.declaration-item.result c.loop-declaration-test.true c.declaration-item.is c.deref-declaration-items.ensures.value (placed_below global_view declaration_node c.args.bound c.declaration-item.result ∙ sym c.global_is_below.ensures ∙ c.if-not-global_is_below.true) c.loop-declaration.invariant

pub returns : goal.returns
returns c =
    end_below (placed global_view declaration_node) c.args.bound c.deref-declaration-items.result.now c.args.declarations.now.items c.loop-declaration.declaration-index c.loop-declaration-test.false c.deref-declaration-items.ensures.value c.loop-declaration.invariant
