use Rattle.std.proofs.Common.{ap, refl}
use Rattle.wesl_tree_syntax.specs.Tree.{expression_case, kind}
use Rattle.wesl_tree_syntax.specs.View.{selector_view}
use Rattle.wesl_visit_collect.proofs.Adds.{hollow, inside, viewed}
use Rattle.wesl_visit_collect.proofs.collect.statement.in_selector.Goals as goal

pub returns-in-Default : goal.returns-in-Default
returns-in-Default g c =
    viewed (ap selector_view c.in-Default.is) (hollow _ refl)

pub returns-in-Expression : goal.returns-in-Expression
returns-in-Expression g c =
    viewed (ap selector_view c.in-Expression.is) (inside (kind expression_case) refl (λ f. refl) c.at_expression.ensures)
