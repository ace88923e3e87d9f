use Rattle.std.proofs.Common.{refl, rules}
use Rattle.wesl_tree_syntax.specs.View.{entry_view}
use Rattle.wesl_json_form.specs.Schema.{an_entry}
use Rattle.wesl_json_print_nodes.proofs.Adding.{keyed, lawful, then}
use Rattle.wesl_json_print_nodes.proofs.Lists.{all_nodes_before, no_nodes_before, one_node_more}
use Rattle.wesl_json_print.proofs.Imports.{collection_printed, entry_printed, item_content}
use Rattle.wesl_json_print.proofs.import.+printing.Goals as goal

pub print_content-returns-in-Item : goal.print_content-returns-in-Item
print_content-returns-in-Item g t c = item_content c.args.spans c.args.names.now c.args.content.now c.in-Item.item (search rules) c.print_item.ensures

pub print_content-returns-in-Collection : goal.print_content-returns-in-Collection
print_content-returns-in-Collection g t c =
    let l = lawful g.met.S.Sink.none g.met.S.Sink.more in
    let steps = then l c.begin.ensures (then l (keyed l c.key.ensures c.print_entries.ensures) c.close.ensures) in
    collection_printed c.args.spans c.args.names.now c.args.content.now c.in-Collection.entries (search rules) steps

pub print_entries-loop-entry-init : goal.print_entries-loop-entry-init
print_entries-loop-entry-init g t c =
    let l = lawful g.met.S.Sink.none g.met.S.Sink.more in
    no_nodes_before c.args.spans c.args.names.now an_entry entry_view l c.deref-entry-items.result.now c.begin_list.new.self

pub print_entries-loop-entry-preserved : goal.print_entries-loop-entry-preserved
print_entries-loop-entry-preserved g t c =
    let l = lawful g.met.S.Sink.none g.met.S.Sink.more in
    one_node_more c.args.spans c.args.names.now an_entry entry_view l c.deref-entry-items.result.now c.loop-entry.entry-index c.entry-item.result _ c.loop-entry-test.true c.entry-item.is refl c.loop-entry.invariant c.print_entry.ensures

pub print_entries-returns : goal.print_entries-returns
print_entries-returns g t c =
    let l = lawful g.met.S.Sink.none g.met.S.Sink.more in
    all_nodes_before c.args.spans c.args.names.now an_entry entry_view l c.deref-entry-items.result.now c.args.entries.now.items c.loop-entry.entry-index c.deref-entry-items.ensures.value c.loop-entry-test.false c.begin_list.ensures c.loop-entry.invariant c.close_list.ensures

pub print_entry-returns : goal.print_entry-returns
print_entry-returns g t c =
    let l = lawful g.met.S.Sink.none g.met.S.Sink.more in
    let steps = then l c.begin.ensures (then l (keyed l c.key.ensures c.print_content.ensures) (then l c.print_names.ensures c.close.ensures)) in
    entry_printed c.args.spans c.args.names.now c.args.entry.now steps
