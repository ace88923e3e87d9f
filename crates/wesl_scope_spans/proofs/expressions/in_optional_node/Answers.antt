use Rattle.std.proofs.Common.{ap, refl}
use Rattle.wesl_tree_syntax.specs.Tree.{absent, before, end, kind, leaf, present}
use Rattle.wesl_tree_syntax.specs.View.{expression_tree, optional}
use Rattle.wesl_scope_spans.proofs.Steps.{inside, none, viewed}
use Rattle.wesl_scope_spans.proofs.expressions.in_optional_node.Goals as goal

pub returns-in-None : goal.returns-in-None
returns-in-None c s = viewed (ap (optional expression_tree) c.in-None.is) (none (before (leaf (kind absent)) end) refl)

pub returns-in-Some : goal.returns-in-Some
returns-in-Some c s = viewed (ap (optional expression_tree) c.in-Some.is) (inside (kind present) refl (c.in_node.ensures s))
