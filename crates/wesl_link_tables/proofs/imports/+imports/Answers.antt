use Rattle.std.proofs.Common.{◌∙◌, ap, map, refl, string_bytes}
use Rattle.wesl_tree_syntax.specs.Tree.{before, end}
use Rattle.wesl_tree_syntax.specs.View.{content_view, entry_view}
use Rattle.wesl_tree_syntax.specs.declared.import.Import.{out-Import}
use Rattle.wesl_link_tables.specs.Base.{base_view}
use Rattle.wesl_link_tables.specs.Imports.{entered}
use Rattle.wesl_link_tables.specs.NumbersView.{paths_of}
use Rattle.wesl_link_tables.specs.Walks.{import_view, imported}
use Rattle.wesl_link_tables.proofs.Known.{base_later, base_same, found_same}
use Rattle.wesl_link_tables.proofs.Lists.{longer_itself, longer_trans}
use Rattle.wesl_link_tables.proofs.Walked.{item_walked, collection_walked, entry_walked, entries_next, entries_all}
use Rattle.wesl_link_tables.proofs.imports.+imports.Goals as goal
use Rattle.wesl_link_split.proofs.Lists.{on_ok}

pub add_content-returns-in-Item-clause-imports : goal.add_content-returns-in-Item-clause-imports
add_content-returns-in-Item-clause-imports t c =
    let paths = paths_of c.args.paths.now in
    on_ok c.add_item.result (λ h. item_walked c.args.stands c.args.published (base_view paths c.args.base) _ _ c.args.content.now c.in-Item.item c.in-Item.is (h paths)) c.add_item.ensures.imports

pub add_content-returns-in-Item-clause-known : goal.add_content-returns-in-Item-clause-known
add_content-returns-in-Item-clause-known t c = on_ok c.add_item.result (λ h. h (paths_of c.args.paths.now) c.requires.base c.requires.known) c.add_item.ensures.known

pub add_content-returns-in-Item-clause-grows : goal.add_content-returns-in-Item-clause-grows
add_content-returns-in-Item-clause-grows t c = longer_itself (paths_of c.args.paths.now)

pub add_content-returns-in-Collection-clause-imports : goal.add_content-returns-in-Collection-clause-imports
add_content-returns-in-Collection-clause-imports t c =
    on_ok c.add_entries.result (λ h. collection_walked c.args.stands c.args.published (base_view (paths_of c.args.paths.now) c.args.base) _ _ c.args.content.now c.in-Collection.entries c.in-Collection.is h) c.add_entries.ensures.imports

pub add_entries-loop-entry-init : goal.add_entries-loop-entry-init
add_entries-loop-entry-init t c = record { found = refl; base = c.requires.base; known = c.requires.known; grows = longer_itself (paths_of c.args.paths.now) }

pub add_entries-loop-entry-preserved : goal.add_entries-loop-entry-preserved
add_entries-loop-entry-preserved t c =
    let first = paths_of c.args.paths.now in
    let now = paths_of c.loop-entry.paths in
    let later = paths_of c.add_entry.new.paths in
    let base = base_view first c.args.base in
    let stays = base_same first now c.loop-entry.invariant.grows c.args.base c.requires.base in
    let one = c.in_ok-add_entry.ensures.imports ∙ ap (λ b. imported c.args.stands c.args.published b (map (import_view now) c.loop-entry.found.items) (before (entry_view c.entry-item.result) end)) stays in
    record {
      found = entries_next c.args.stands c.args.published base _ _ _ c.loop-entry.entry-index c.entry-item.result _ c.loop-entry-test.true c.entry-item.is c.loop-entry.invariant.found one;
      base = base_later now later c.add_entry.ensures.grows c.args.base c.loop-entry.invariant.base;
      known = c.in_ok-add_entry.ensures.known;
      grows = longer_trans first now later c.loop-entry.invariant.grows c.add_entry.ensures.grows;
    }

pub add_entries-returns-in_err-add_entry-clause-grows : goal.add_entries-returns-in_err-add_entry-clause-grows
add_entries-returns-in_err-add_entry-clause-grows t c = longer_trans (paths_of c.args.paths.now) (paths_of c.loop-entry.paths) (paths_of c.add_entry.new.paths) c.loop-entry.invariant.grows c.add_entry.ensures.grows

pub add_entries-returns-clause-imports : goal.add_entries-returns-clause-imports
add_entries-returns-clause-imports t c =
    let first = paths_of c.args.paths.now in
    entries_all c.args.stands c.args.published (base_view first c.args.base) (map (import_view first) c.args.found.now.items) _ _ _ c.loop-entry.entry-index c.deref-entry-items.ensures.value c.loop-entry-test.false c.loop-entry.invariant.found

pub add_entries-returns-clause-known : goal.add_entries-returns-clause-known
add_entries-returns-clause-known t c = c.loop-entry.invariant.known

pub add_entries-returns-clause-grows : goal.add_entries-returns-clause-grows
add_entries-returns-clause-grows t c = c.loop-entry.invariant.grows

pub add_entry-returns-clause-imports : goal.add_entry-returns-clause-imports
add_entry-returns-clause-imports t c =
    let first = paths_of c.args.paths.now in
    let now = paths_of c.entered.new.paths in
    let b = base_view first c.args.base in
    let inner = c.in_ok-inner.ensures.base ∙ ap (λ l. entered b (map string_bytes l)) c.deref.ensures.value in
    let stays = found_same first now c.entered.ensures.grows c.args.found.now.items c.requires.known in
    on_ok c.add_content.result
    (λ h. entry_walked c.args.stands c.args.published b _ _ c.args.entry.now _ inner
    (h ∙ ap (λ js. imported c.args.stands c.args.published (base_view now c.in_ok-inner.inner) js (before (content_view (out-Import c.args.entry.now).content) end)) stays)) c.add_content.ensures.imports

pub add_entry-returns-clause-grows : goal.add_entry-returns-clause-grows
add_entry-returns-clause-grows t c = longer_trans (paths_of c.args.paths.now) (paths_of c.entered.new.paths) (paths_of c.add_content.new.paths) c.entered.ensures.grows c.add_content.ensures.grows
