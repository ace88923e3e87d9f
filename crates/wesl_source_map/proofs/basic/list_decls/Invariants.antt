use Rattle.std.proofs.Common.{◌≡◌, map, Bor}
use Rattle.std.specs.Map.Iter.{deref_pair}
use Rattle.wesl_tree_names.specs.Path.{Text, path_view}
use Rattle.wesl_tree_names.specs.declared.path.ModulePath.{ModulePath}
use Rattle.wesl_source_map_entries.specs.Records.{Item}
use Rattle.wesl_source_map_entries.proofs.Items.{entry_seen}
use Rattle.wesl_source_map.proofs.basic.list_decls.Given as goal

-- the list has the entries so far
abbrev pub invariant-loop-name : goal.invariant-loop-name
invariant-loop-name l =
    let shown : Bor Text × Bor ModulePath × Bor Text → Text × Item = λ d. (d.0.now, (path_view d.1.now, d.2.now)) in
    map shown l.decls.items ≡ map entry_seen (map deref_pair l.yielded)
