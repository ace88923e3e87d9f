use Rattle.std.proofs.Common.{ap, refl}
use Rattle.wesl_tree_syntax.specs.Tree.{kind, present}
use Rattle.wesl_tree_syntax.specs.View.{expression_tree, optional}
use Rattle.wesl_visit_collect.proofs.Adds.{hollow, inside, viewed}
use Rattle.wesl_visit_collect.proofs.collect.attribute.at_optional_expression.Goals as goal

pub returns-in-None : goal.returns-in-None
returns-in-None g c =
    viewed (ap (optional expression_tree) c.in-None.is) (hollow _ refl)

pub returns-in-Some : goal.returns-in-Some
returns-in-Some g c =
    viewed (ap (optional expression_tree) c.in-Some.is) (inside (kind present) refl (λ f. refl) c.at_expression.ensures)
