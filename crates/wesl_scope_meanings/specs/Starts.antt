-- How the walk that reads identifiers begins.
use Rattle.std.specs.Prelude.{List}
use Rattle.wesl_tree_names.specs.Path.{Text}
use Rattle.wesl_scope_meanings.specs.Sensed.{unsensed}
use Rattle.wesl_scope_meanings.specs.Spellings.{AreSpellings}
use Rattle.wesl_scope_meanings.specs.Reads.{Shows}
use Rattle.wesl_scope_meanings.specs.declared.reader.Reader.{Reader}

-- nothing was read of identifiers with these names
pub record IsUnread (names : List Text) (r : Reader) : Type 0 where
  pub texts : List Text
  pub spelled : AreSpellings names texts r.alike.items
  pub shows : Shows texts r unsensed
