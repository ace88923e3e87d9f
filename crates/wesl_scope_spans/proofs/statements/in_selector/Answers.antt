use Rattle.std.proofs.Common.{ap, refl}
use Rattle.wesl_tree_syntax.specs.Tree.{before, default_case, end, expression_case, kind, leaf}
use Rattle.wesl_tree_syntax.specs.View.{selector_view}
use Rattle.wesl_scope_spans.proofs.Steps.{inside, none, viewed}
use Rattle.wesl_scope_spans.proofs.statements.in_selector.Goals as goal

pub returns-in-Default : goal.returns-in-Default
returns-in-Default c s = viewed (ap selector_view c.in-Default.is) (none (before (leaf (kind default_case)) end) refl)

pub returns-in-Expression : goal.returns-in-Expression
returns-in-Expression c s = viewed (ap selector_view c.in-Expression.is) (inside (kind expression_case) refl (c.in_node.ensures s))
