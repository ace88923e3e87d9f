use Rattle.std.proofs.Common.{refl, ap}
use Rattle.wesl_tree_syntax.specs.Tree.{expression_case, kind}
use Rattle.wesl_tree_syntax.specs.View.{selector_view}
use Rattle.wesl_tree_syntax.specs.declared.statement.CaseSelector.TheVariants as made
use Rattle.wesl_visit_rewrite.proofs.Steps.{inside, unmoved, viewed}
use Rattle.wesl_visit_rewrite.proofs.replace.statement.in_selector.Goals as goal

pub returns-in-Default : goal.returns-in-Default
returns-in-Default g c =
    let p = ap selector_view c.in-Default.is in
    viewed _ _ p p (unmoved _ refl)

pub returns-in-Expression : goal.returns-in-Expression
returns-in-Expression g c =
    let d = c.at_expression in
    viewed _ (selector_view (made.Expression d.new.node)) (ap selector_view c.in-Expression.is) refl (inside (kind expression_case) refl refl d.ensures)
