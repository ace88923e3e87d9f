use Rattle.std.proofs.Common.{◌∙◌, ap, arith, refl}
use Rattle.wesl_tree_syntax.specs.Tree.{import_collection, import_entry, kind, list}
use Rattle.wesl_tree_syntax.specs.View.{content_view, names_tree}
use Rattle.wesl_scope_words.proofs.Declared.{named_item}
use Rattle.wesl_scope_words.proofs.Steps.{beyond, inside, viewed, walked_all, walked_next, walked_none}
use Rattle.wesl_scope_words.proofs.declarations.+imports.Goals as goal
use Rattle.wesl_tree_syntax.proofs.Views.{view_collection, view_entry, view_item}

pub in_content-returns-in-Item : goal.in_content-returns-in-Item
in_content-returns-in-Item t c =
    let i = c.in-Item.field-0 in
    viewed (ap content_view c.in-Item.is ∙ view_item i) (named_item i c.name.ensures)

pub in_content-returns-in-Collection : goal.in_content-returns-in-Collection
in_content-returns-in-Collection t c =
    viewed (ap content_view c.in-Collection.is ∙ view_collection c.in-Collection.entries) (inside (kind import_collection) refl (inside (kind list) refl c.in_entries.ensures))

pub in_entries-loop-entry-init : goal.in_entries-loop-entry-init
in_entries-loop-entry-init t c = walked_none

pub in_entries-loop-entry-preserved : goal.in_entries-loop-entry-preserved
in_entries-loop-entry-preserved t c =
    let e = c.entry-item.result in
    walked_next e (omega arith) c.entry-item.is c.loop-entry.invariant (viewed (view_entry e) (inside (kind import_entry) refl (beyond (names_tree e.path) refl c.in_content.ensures)))

pub in_entries-returns : goal.in_entries-returns
in_entries-returns t c = walked_all (omega arith) c.deref-entry-items.ensures.value c.loop-entry.invariant
