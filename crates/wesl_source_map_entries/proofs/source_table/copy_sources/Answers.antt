use Rattle.std.proofs.Common.{◌≡◌, ◌∷◌, [], List, map, None, refl, sym, ap, ◌∙◌, rules}
use Rattle.std.specs.Map.{update_all}
use Rattle.std.specs.Map.Iter.{deref_pair}
use Rattle.std.proofs.lemmas.List.{map-append}
use Rattle.std.proofs.lemmas.Map.Iter.{iter_end}
use Rattle.wesl_tree_names.specs.PathOrder.{same_path}
use Rattle.wesl_tree_names.specs.declared.path.ModulePath.{ModulePath}
use Rattle.wesl_source_map_entries.proofs.Sources.{Said, entry_seen, sources_in-more, sources_in-all}
use Rattle.wesl_source_map_entries.proofs.source_table.copy_sources.Goals as goal

pub loop-path-init : goal.loop-path-init
loop-path-init c = c.requires.empty

pub loop-path-preserved : goal.loop-path-preserved
loop-path-preserved c q =
    sources_in-more c.loop-path.copy.entries c.put_said.new.copy.entries (map deref_pair c.loop-path.yielded) (c.in-Some.path.now, c.in-Some.said.now) (entry_seen (c.in-Some.path.now, c.in-Some.said.now))
    c.loop-path.invariant
    c.in_ok-put_said.ensures.written
    refl
    q
    ∙ ap (λ (es : List (ModulePath × Said)). update_all same_path (λ _. None) (map entry_seen es) q) (sym (map-append deref_pair c.loop-path.yielded ((c.in-Some.path, c.in-Some.said) ∷ [])))

pub returns-clause-equal : goal.returns-clause-equal
returns-clause-equal c q =
    let all : map deref_pair c.loop-path.yielded ≡ c.args.sources.now.entries = search (rules, iter_end) in
    c.loop-path.invariant q
    ∙ ap (λ (es : List (ModulePath × Said)). update_all same_path (λ _. None) (map entry_seen es) q) all
    ∙ sources_in-all c.args.sources.now.entries c.iter-path-items.ensures.unique q
