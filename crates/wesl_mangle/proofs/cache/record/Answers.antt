use Rattle.std.proofs.Common.{◌∙◌, sym, string_bytes}
use Rattle.std.proofs.lemmas.Map.Text.{btree_map_updates_text}
use Rattle.wesl_mangle_forms.specs.Items.{item_view}
use Rattle.wesl_mangle.proofs.Records.{view-update, when-ok}
use Rattle.wesl_mangle.proofs.cache.record.Goals as goal

pub returns-then-is_made-clause-written : goal.returns-then-is_made-clause-written
returns-then-is_made-clause-written c = λ name item h.
    let k = rw c.in-Ok.is at h in
    let u = when-ok c.insert.result (sym c.is_made.ensures ∙ c.if-is_made.true) c.insert.ensures.updates in
    view-update item_view c.args.items.now c.insert.new.self (string_bytes c.in-Ok.name) name c.in-Ok.written item
    (btree_map_updates_text (string_bytes c.in-Ok.name) c.args.items.now c.insert.new.self _ u) k.0 k.1
