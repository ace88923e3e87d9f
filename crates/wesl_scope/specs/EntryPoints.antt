-- The entry points of a module (WGSL, "Entry Points").
use Rattle.std.specs.Prelude.{Bool, true, false, ◌&&◌, List, [], ◌++◌, if◌then◌else◌}
use Rattle.wesl_tree_syntax.specs.Tree.{LabelOf, ForestOf, end, tree, kind, function, vertex, fragment, compute}
use Rattle.wesl_scope_strip.specs.Forests.{begins, first_children, one_begins, own_identifiers}

module _ {I : Type 0} where
  -- whether a label is that of @vertex, @fragment or @compute
  abbrev pub is_stage : LabelOf I → Bool
  is_stage (kind vertex) = true
  is_stage (kind fragment) = true
  is_stage (kind compute) = true
  is_stage _ = false

  -- whether a label is that of a function
  abbrev pub is_function : LabelOf I → Bool
  is_function (kind function) = true
  is_function _ = false

  -- whether a declaration is a function with an attribute of a stage, where the attributes are the first field
  abbrev pub is_entry_point : ForestOf I → Bool
  is_entry_point declared = begins is_function declared && one_begins is_stage (first_children (first_children declared))

  -- the name of a declaration that is an entry point
  abbrev pub entry_points_in : ForestOf I → List I
  entry_points_in declared = if is_entry_point declared then own_identifiers (first_children declared) else []

  -- the names of the entry points among declarations, each in its node
  abbrev pub entry_points_of : ForestOf I → List I
  entry_points_of end = []
  entry_points_of (tree l declared others) = entry_points_in declared ++ entry_points_of others
