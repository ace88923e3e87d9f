use Rattle.std.proofs.Common.{◌≡◌, drop, map}
use Rattle.wesl_tree_syntax.specs.Tree.{forest_of, attribute_node}
use Rattle.wesl_tree_syntax.specs.View.{attribute_view, placed}
use Rattle.wesl_link_tables.specs.Imports.{is_published}
use Rattle.wesl_link_tables.proofs.imports.is_published.Given as goal

abbrev pub invariant-loop-attribute : goal.invariant-loop-attribute
invariant-loop-attribute l =
    is_published (forest_of (map (placed attribute_view attribute_node) l.attribute-items))
    ≡ is_published (forest_of (map (placed attribute_view attribute_node) (drop l.attribute-index l.attribute-items)))
