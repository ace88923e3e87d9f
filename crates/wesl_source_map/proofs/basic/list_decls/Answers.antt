use Rattle.std.proofs.Common.{◌≡◌, List, map, sym, ap, subst, ◌∙◌, arith, rules}
use Rattle.std.specs.Map.Iter.{deref_pair}
use Rattle.std.proofs.lemmas.Grind.{common_steps}
use Rattle.std.proofs.lemmas.Map.Iter.{iter_end}
use Rattle.wesl_tree_names.specs.Path.{Text}
use Rattle.wesl_source_map_entries.specs.Records.{Item}
use Rattle.wesl_source_map_entries.specs.Listed.{IsListing}
use Rattle.wesl_source_map_entries.specs.Tables.{items_in}
use Rattle.wesl_source_map_entries.proofs.Items.{entry_seen, items_in-listing}
use Rattle.wesl_source_map.proofs.basic.list_decls.Goals as goal

pub loop-name-preserved : goal.loop-name-preserved
loop-name-preserved c = grind (arith, common_steps)

pub returns : goal.returns
returns c =
    let all : map deref_pair c.loop-name.yielded ≡ c.args.table.now.entries = search (rules, iter_end) in
    let table = c.args.table.now in
    let Lists : List (Text × Item) → Type 0 = IsListing (items_in table) in
    record { listed = subst Lists (sym (c.loop-name.invariant ∙ ap (map entry_seen) all)) (items_in-listing table c.iter-name-items.ensures.ordered) }
