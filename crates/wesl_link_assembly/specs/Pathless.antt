-- Trees in which references stand without their paths (WESL, "Imports").
use Rattle.std.specs.Prelude.{Bool, ◌||◌, if◌then◌else◌}
use Rattle.wesl_tree_syntax.specs.Tree.{LabelOf, ForestOf, TreeOf, end, tree, kind, path, absent}
use Rattle.wesl_tree_syntax.specs.Nodes.{is_type, is_formula, is_import_or_directive}

module _ {I : Type 0} where
  -- the fields of a type expression, of which a path is the first, without a path
  abbrev pub without_path : ForestOf I → ForestOf I
  without_path (tree (kind k) (tree (path p) end end) others) = tree (kind absent) end others
  without_path fields = fields

  -- in formulas of conditions, imports and directives names are words
  abbrev pub has_words : LabelOf I → Bool
  has_words l = is_formula l || is_import_or_directive l

  -- references lose their paths, and words keep theirs
  abbrev pub without_paths : ForestOf I → ForestOf I
  without_paths end = end
  without_paths (tree l children others) =
      tree l (if is_type l then without_path (without_paths children) else if has_words l then children else without_paths children) (without_paths others)

  -- one node of a type expression without its path
  abbrev pub pathless : TreeOf I → TreeOf I
  pathless t = record { label = t.label; children = without_path t.children }
