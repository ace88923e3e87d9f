use Rattle.std.proofs.Common.{◌≡◌, map, None}
use Rattle.std.specs.Map.{update_all}
use Rattle.std.specs.Map.Iter.{deref_pair}
use Rattle.wesl_tree_names.specs.Path.{Path}
use Rattle.wesl_tree_names.specs.PathOrder.{same_path}
use Rattle.wesl_source_map_entries.specs.Tables.{sources_in}
use Rattle.wesl_source_map_entries.proofs.Sources.{entry_seen}
use Rattle.wesl_source_map_entries.proofs.source_table.copy_sources.Given as goal

-- the copy has the entries so far
abbrev pub invariant-loop-path : goal.invariant-loop-path
invariant-loop-path l = (q : Path) → sources_in l.copy.entries q ≡ update_all same_path (λ _. None) (map entry_seen (map deref_pair l.yielded)) q
