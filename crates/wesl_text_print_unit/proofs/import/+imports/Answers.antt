use Rattle.wesl_text_print.proofs.Lists.{all_commas_before, no_commas_before, node_slots, one_comma_more, separate_is}
use Rattle.std.proofs.Common.{ap, option_map}
use Rattle.wesl_text_form.specs.Spelling.{trailing}
use Rattle.wesl_text_print.proofs.Adding.{lawful, none, one, then, told}
use Rattle.wesl_text_form.specs.Productions.{an_entry}
use Rattle.wesl_tree_syntax.specs.View.{entry_view}
use Rattle.wesl_text_print_unit.proofs.Imports.{collection_in, entry_printed, entry_shows, item_in}
use Rattle.wesl_text_print_unit.proofs.import.+imports.Goals as goal

pub print_content-returns-in-Item : goal.print_content-returns-in-Item
print_content-returns-in-Item g t c = told (item_in c.args.names.now c.args.content.now c.in-Item.item c.in-Item.is) c.print_item.ensures

pub print_content-returns-in-Collection : goal.print_content-returns-in-Collection
print_content-returns-in-Collection g t c =
    let l = lawful g.met.S.TokenSink.none g.met.S.TokenSink.more in
    told (collection_in c.args.names.now c.args.content.now c.in-Collection.entries c.in-Collection.is) (then l (one l c.symbol.ensures) (then l c.print_entries.ensures (then l (one l c.symbol-in-Collection.ensures) (none l))))

pub print_entry-returns : goal.print_entry-returns
print_entry-returns g t c =
    let l = lawful g.met.S.TokenSink.none g.met.S.TokenSink.more in
    told (entry_printed c.args.names.now c.args.entry.now) (then l c.print_steps.ensures (then l c.print_content.ensures (none l)))

pub print_entries-loop-entry-init : goal.print_entries-loop-entry-init
print_entries-loop-entry-init g t c =
    let l = lawful g.met.S.TokenSink.none g.met.S.TokenSink.more in
    no_commas_before (node_slots c.args.names.now an_entry entry_view) l c.deref-entry-items.result.now c.args.out.now

pub print_entries-loop-entry-preserved : goal.print_entries-loop-entry-preserved
print_entries-loop-entry-preserved g t c =
    let l = lawful g.met.S.TokenSink.none g.met.S.TokenSink.more in
    one_comma_more (node_slots c.args.names.now an_entry entry_view) l c.deref-entry-items.result.now c.loop-entry.entry-index c.entry-item.result c.loop-entry.is_first c.loop-entry-test.true c.entry-item.is c.loop-entry.invariant c.print_comma.ensures
    c.print_entry.ensures

pub print_entries-returns : goal.print_entries-returns
print_entries-returns g t c =
    let l = lawful g.met.S.TokenSink.none g.met.S.TokenSink.more in
    told (ap (option_map trailing) (separate_is c.args.names.now an_entry entry_view c.args.entries.now.items))
    (all_commas_before (node_slots c.args.names.now an_entry entry_view) l (entry_shows c.args.names.now) c.deref-entry-items.result.now c.args.entries.now.items c.loop-entry.entry-index c.loop-entry.is_first c.deref-entry-items.ensures.value c.loop-entry-test.false c.loop-entry.invariant c.end_commas.ensures)
