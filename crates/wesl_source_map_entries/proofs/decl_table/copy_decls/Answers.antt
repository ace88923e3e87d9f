use Rattle.std.proofs.Common.{◌≡◌, ◌∷◌, [], List, map, None, sym, ap, ◌∙◌, rules}
use Rattle.std.specs.Str.{bytes_eq}
use Rattle.std.specs.Map.{update_all}
use Rattle.std.specs.Map.Iter.{deref_pair}
use Rattle.std.proofs.lemmas.List.{map-append}
use Rattle.std.proofs.lemmas.Map.Iter.{iter_end}
use Rattle.wesl_tree_names.specs.Path.{path_view}
use Rattle.wesl_source_map_entries.proofs.Items.{Entry, entry_seen, items_in-more, items_in-all}
use Rattle.wesl_source_map_entries.proofs.decl_table.copy_decls.Goals as goal

pub loop-name-init : goal.loop-name-init
loop-name-init c = c.requires.empty

pub loop-name-preserved : goal.loop-name-preserved
loop-name-preserved c q =
    items_in-more c.loop-name.copy c.put_decl_copy.new.decls (map deref_pair c.loop-name.yielded) (c.in-Some.name.now, c.in-Some.field-0-1.now) _
    c.loop-name.invariant
    c.in_ok-put_decl_copy.ensures.written
    (λ i. (c.as_str.ensures.value i, (path_view c.in-Some.field-0-1.now.0, c.as_str-in-loop-name.ensures.value i)))
    q
    ∙ ap (λ (es : List Entry). update_all bytes_eq (λ _. None) (map entry_seen es) q) (sym (map-append deref_pair c.loop-name.yielded ((c.in-Some.name, c.in-Some.field-0-1) ∷ [])))

pub returns-clause-equal : goal.returns-clause-equal
returns-clause-equal c q =
    let all : map deref_pair c.loop-name.yielded ≡ c.args.decls.now.entries = search (rules, iter_end) in
    c.loop-name.invariant q
    ∙ ap (λ (es : List Entry). update_all bytes_eq (λ _. None) (map entry_seen es) q) all
    ∙ items_in-all c.args.decls.now c.iter-name-items.ensures.ordered q
