use Rattle.std.proofs.Common.{◌≡◌, map, None}
use Rattle.std.specs.Str.{bytes_eq}
use Rattle.std.specs.Map.{update_all}
use Rattle.std.specs.Map.Iter.{deref_pair}
use Rattle.wesl_tree_names.specs.Path.{Text}
use Rattle.wesl_source_map_entries.specs.Tables.{items_in}
use Rattle.wesl_source_map_entries.proofs.Items.{entry_seen}
use Rattle.wesl_source_map_entries.proofs.decl_table.copy_decls.Given as goal

-- the copy has the entries so far
abbrev pub invariant-loop-name : goal.invariant-loop-name
invariant-loop-name l = (q : Text) → items_in l.copy q ≡ update_all bytes_eq (λ _. None) (map entry_seen (map deref_pair l.yielded)) q
