use Rattle.std.proofs.Common.{ap, refl}
use Rattle.wesl_tree_syntax.specs.Tree.{absent, before, break_if, end, kind, leaf, present}
use Rattle.wesl_tree_syntax.specs.View.{break_if_view, optional}
use Rattle.wesl_scope_spans.proofs.Steps.{beside, inside, none, viewed}
use Rattle.wesl_scope_spans.proofs.statements.in_optional_break_if.Goals as goal

pub returns-in-None : goal.returns-in-None
returns-in-None c s = viewed (ap (optional break_if_view) c.in-None.is) (none (before (leaf (kind absent)) end) refl)

pub returns-in-Some : goal.returns-in-Some
returns-in-Some c s = viewed (ap (optional break_if_view) c.in-Some.is) (inside (kind present) refl (inside (kind break_if) refl (beside (c.in_attributes.ensures s) (c.in_node.ensures s))))
