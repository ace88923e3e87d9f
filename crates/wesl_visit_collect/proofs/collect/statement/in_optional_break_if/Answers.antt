use Rattle.std.proofs.Common.{ap, refl}
use Rattle.wesl_tree_syntax.specs.Tree.{break_if, kind, present}
use Rattle.wesl_tree_syntax.specs.View.{break_if_view, optional}
use Rattle.wesl_visit_collect.proofs.Adds.{beside, hollow, inside, viewed}
use Rattle.wesl_visit_collect.proofs.collect.statement.in_optional_break_if.Goals as goal

pub returns-in-None : goal.returns-in-None
returns-in-None g c =
    viewed (ap (optional break_if_view) c.in-None.is) (hollow _ refl)

pub returns-in-Some : goal.returns-in-Some
returns-in-Some g c =
    viewed (ap (optional break_if_view) c.in-Some.is) (inside (kind present) refl (λ f. refl) (inside (kind break_if) refl (λ f. refl) (beside c.at_attributes.ensures c.at_expression.ensures)))
