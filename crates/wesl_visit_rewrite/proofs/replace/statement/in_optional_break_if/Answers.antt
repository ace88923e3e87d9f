use Rattle.std.proofs.Common.{refl, ap, Some}
use Rattle.wesl_tree_syntax.specs.View.{optional}
use Rattle.wesl_tree_syntax.specs.View.{break_if_view}
use Rattle.wesl_tree_syntax.specs.Tree.{break_if, kind, present}
use Rattle.wesl_visit_rewrite.proofs.Steps.{beside, inside, unmoved, viewed}
use Rattle.wesl_visit_rewrite.proofs.replace.statement.in_optional_break_if.Goals as goal

pub returns-in-None : goal.returns-in-None
returns-in-None g c =
    let p = ap (optional break_if_view) c.in-None.is in
    viewed _ _ p p (unmoved _ refl)

pub returns-in-Some : goal.returns-in-Some
returns-in-Some g c =
    let d0 = c.at_attributes-goes in
    let d1 = c.at_expression in
    viewed _ (optional break_if_view (Some (record { attributes = d0.new.attributes; expression = d1.new.node }))) (ap (optional break_if_view) c.in-Some.is) refl
    (inside (kind present) refl refl (inside (kind break_if) refl refl (beside d0.ensures d1.ensures)))
