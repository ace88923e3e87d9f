use Rattle.std.proofs.Common.{◌≡◌, drop, map}
use Rattle.wesl_scope_strip.specs.Forests.{one_begins}
use Rattle.wesl_tree_syntax.specs.Tree.{forest_of, attribute_node}
use Rattle.wesl_tree_syntax.specs.View.{attribute_view, placed}
use Rattle.wesl_validate_rules.specs.Names.{is_condition}
use Rattle.wesl_validate_rules.proofs.imports.is_conditional.Given as goal

abbrev pub invariant-loop-attribute : goal.invariant-loop-attribute
invariant-loop-attribute l =
    one_begins is_condition (forest_of (map (placed attribute_view attribute_node) l.attribute-items))
    ≡ one_begins is_condition (forest_of (map (placed attribute_view attribute_node) (drop l.attribute-index l.attribute-items)))
