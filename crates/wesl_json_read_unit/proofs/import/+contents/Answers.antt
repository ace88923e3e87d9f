use Rattle.std.specs.Option.{is_some}
use Rattle.serde_json.specs.Find.{get}
use Rattle.serde_json.specs.Data.{array, depth, items_depth}
use Rattle.wesl_json_form.specs.View.{borrowed_view, items_view}
use Rattle.std.proofs.Common.{Some, arith, codes, refl, rules, sym, true, ◌≡◌, ◌<◌, ◌≤◌, ◌∙◌}
use Rattle.wesl_json_form.specs.Schema.{an_entry}
use Rattle.wesl_json_form.proofs.Depths.{array-depth, get-depth, item-depth}
use Rattle.wesl_tree_syntax.specs.Tree.{list}
use Rattle.wesl_tree_syntax.specs.View.{entry_view}
use Rattle.wesl_json_read_unit.proofs.Imports.{content-collection, made-entry}
use Rattle.wesl_json_read.proofs.Noting.{all_items, is_clear, many_next, needed_lacks, needed_part, needs_next, no_items, no_list, no_more, of_bare, one_item, seen, stopped}
use Rattle.wesl_json_read_unit.proofs.Spanned.{needs_many_next}
use Rattle.wesl_json_read_unit.proofs.import.+contents.Goals as goal
use Rattle.wesl_json_read_unit.proofs.import.+contents.Goals.{entries-else-not-is_stopped, entries-then-not-is_stopped}
use Rattle.wesl_tree_syntax.proofs.Views.{view_collection, view_item}

pub content_member-content-content-requires : goal.content_member-content-content-requires
content_member-content-content-requires t c =
    let low : depth (borrowed_view c.in-Some.member.now) < depth (borrowed_view c.args.value.now) = get-depth (codes "content") _ _ c.in-Some.ensures.there.found in
    (omega arith, tt)

pub entries-entry-entry-requires : goal.entries-entry-entry-requires
entries-entry-entry-requires t c =
    let vs = c.in-Some.items.now in
    let below : depth (borrowed_view c.index-items-index.result) ≤ items_depth (items_view vs) = item-depth vs c.loop-index.index c.index-items-index.result c.loop-index-test.true c.index-items-index.is in
    let found : get (codes "list") (borrowed_view c.args.value.now) ≡ Some (array (items_view vs)) = c.in-Some.ensures.there.found in
    let deep : items_depth (items_view vs) < depth (array (items_view vs)) = array-depth (array (items_view vs)) (items_view vs) refl in
    let low : depth (array (items_view vs)) < depth (borrowed_view c.args.value.now) = get-depth (codes "list") (borrowed_view c.args.value.now) (array (items_view vs)) found in
    (omega arith, tt)

pub content_member-returns-in_default : goal.content_member-returns-in_default
content_member-returns-in_default t c = needed_lacks c.in_default.ensures.lacks

pub content_member-returns : goal.content_member-returns
content_member-returns t c = needed_part c.in-Some.ensures.there c.in-Some.ensures.same c.content-content.ensures c.within.ensures

pub entries-loop-index-init : goal.entries-loop-index-init
entries-loop-index-init t c = no_items entry_view list an_entry c.in-Some.ensures.same c.room-entries.ensures.empty c.room-entries.ensures.noted

pub entries-loop-index-preserved : goal.entries-loop-index-preserved
entries-loop-index-preserved t c =
    elim c.if-not-is_stopped.branch [
      | entries-then-not-is_stopped w ↦ rw (w.reader-is, w.entries-is) (one_item entry_view list an_entry c.loop-index-test.true c.index-items-index.is c.loop-index.invariant (is_clear _ (sym c.is_stopped.ensures ∙ w.if-not-is_stopped.true)) w.entry-entry.ensures w.put.ensures.put w.put.ensures.noted)
      | entries-else-not-is_stopped w ↦ rw (w.reader-is, w.entries-is) (stopped entry_view list an_entry (sym c.is_stopped.ensures ∙ w.if-not-is_stopped.false) c.loop-index.invariant)
    ]

pub entries-returns : goal.entries-returns
entries-returns t c = all_items entry_view list an_entry refl c.in-Some.ensures.there c.loop-index-test.false c.loop-index.invariant c.within.ensures

pub entries-returns-in_default : goal.entries-returns-in_default
entries-returns-in_default t c = no_list entry_view list an_entry c.new.ensures.items c.in_default.ensures.lacks

pub entry-returns : goal.entry-returns
entry-returns t c = seen (sym (made-entry _ _)) (of_bare refl refl refl c.keys.ensures (many_next refl c.names.ensures (needs_next refl c.content_member.ensures no_more)))

pub content-returns-then-is_some : goal.content-returns-then-is_some
content-returns-then-is_some t c =
    let d = borrowed_view c.args.value.now in
    let there : is_some (get (codes "list") d) ≡ true = search rules in
    seen (sym (view_collection _)) (of_bare (content-collection c.args.reader.now.spans d there) refl refl c.keys.ensures (needs_many_next refl there c.entries.ensures no_more))

pub content-returns-else-is_some : goal.content-returns-else-is_some
content-returns-else-is_some t c = seen (sym (view_item _)) c.item.ensures
