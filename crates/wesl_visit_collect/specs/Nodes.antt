-- Nodes that are lent, as their trees.
use Rattle.std.specs.Prelude.{Option, Some, None, if◌then◌else◌}
use Rattle.wesl_tree_syntax.specs.Tree.{Tree}
use Rattle.wesl_tree_syntax.specs.View.{expression_tree, type_view, statement_tree, attributes_tree}
use Rattle.wesl_visit_collect.specs.Sought.{Sought}
use Rattle.wesl_visit_collect.specs.Picks.{picks}
use Rattle.wesl_visit_collect.specs.declared.kinds.NodeRef.{NodeRef}
use Rattle.wesl_visit_collect.specs.declared.kinds.NodeRef.TheVariants as node

-- the tree of a node of the four kinds; an expression and a statement with their spans
abbrev pub node_tree : NodeRef → Tree
node_tree (node.Expression n) = expression_tree n.now
node_tree (node.TypeExpression t) = type_view t.now
node_tree (node.Statement s) = statement_tree s.now
node_tree (node.Attributes a) = attributes_tree a.now

-- the tree itself, where it is of the kind
abbrev pub picked : Sought → Tree → Option Tree
picked k t = if picks k t.label then Some t else None
