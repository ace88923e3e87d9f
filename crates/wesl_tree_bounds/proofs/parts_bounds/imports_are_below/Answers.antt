use Rattle.std.proofs.Common.{refl, sym, ◌∙◌}
use Rattle.wesl_tree_syntax.specs.Tree.{import_node}
use Rattle.wesl_tree_syntax.specs.View.{import_view, placed}
use Rattle.wesl_tree_bounds.proofs.Below.{end_below, next_below, not_below, placed_below}
use Rattle.wesl_tree_bounds.proofs.parts_bounds.imports_are_below.Goals as goal

pub loop-import-init : goal.loop-import-init
loop-import-init c = refl

pub loop-import-preserved : goal.loop-import-preserved
loop-import-preserved c =
    next_below (placed import_view import_node) c.args.bound c.deref-import-items.result.now c.loop-import.import-index c.import-item.result c.loop-import-test.true c.import-item.is (placed_below import_view import_node c.args.bound c.import-item.result ∙ sym c.import_is_below.ensures ∙ c.if-not-import_is_below.false) c.loop-import.invariant

pub returns-then-not-import_is_below : goal.returns-then-not-import_is_below
returns-then-not-import_is_below c =
    not_below (placed import_view import_node) c.args.bound c.deref-import-items.result.now c.args.imports.now.items c.loop-import.import-index c.import-item.result c.loop-import-test.true c.import-item.is c.deref-import-items.ensures.value (placed_below import_view import_node c.args.bound c.import-item.result ∙ sym c.import_is_below.ensures ∙ c.if-not-import_is_below.true) c.loop-import.invariant

pub returns : goal.returns
returns c =
    end_below (placed import_view import_node) c.args.bound c.deref-import-items.result.now c.args.imports.now.items c.loop-import.import-index c.loop-import-test.false c.deref-import-items.ensures.value c.loop-import.invariant
