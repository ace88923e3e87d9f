use Rattle.std.proofs.Common.{refl, sym, ◌∙◌}
use Rattle.wesl_json_form.specs.Schema.{an_import}
use Rattle.wesl_tree_syntax.specs.Tree.{import_node, imports}
use Rattle.wesl_tree_syntax.specs.View.{import_view, placed}
use Rattle.wesl_json_read.proofs.Noting.{all_items, is_clear, no_items, no_list, one_item, stopped}
use Rattle.wesl_json_read_unit.proofs.import.imports.Goals as goal
use Rattle.wesl_json_read_unit.proofs.import.imports.Goals.{else-not-is_stopped, then-not-is_stopped}

pub loop-index-init : goal.loop-index-init
loop-index-init c = no_items (placed import_view import_node) imports an_import c.in-Some.ensures.same c.room-imports.ensures.empty c.room-imports.ensures.noted

pub loop-index-preserved : goal.loop-index-preserved
loop-index-preserved c =
    elim c.if-not-is_stopped.branch [
      | then-not-is_stopped w ↦ rw (w.reader-is, w.imports-is) (one_item (placed import_view import_node) imports an_import c.loop-index-test.true c.index-items-index.is c.loop-index.invariant (is_clear _ (sym c.is_stopped.ensures ∙ w.if-not-is_stopped.true)) w.import-import.ensures w.put.ensures.put w.put.ensures.noted)
      | else-not-is_stopped w ↦ rw (w.reader-is, w.imports-is) (stopped (placed import_view import_node) imports an_import (sym c.is_stopped.ensures ∙ w.if-not-is_stopped.false) c.loop-index.invariant)
    ]

pub returns : goal.returns
returns c = all_items (placed import_view import_node) imports an_import refl c.in-Some.ensures.there c.loop-index-test.false c.loop-index.invariant c.within.ensures

pub returns-in_default : goal.returns-in_default
returns-in_default c = no_list (placed import_view import_node) imports an_import c.new.ensures.items c.in_default.ensures.lacks
