use Rattle.std.proofs.Common.{refl, ap, Some}
use Rattle.wesl_tree_syntax.specs.View.{optional}
use Rattle.wesl_tree_syntax.specs.View.{type_view}
use Rattle.wesl_tree_syntax.specs.Tree.{kind, present}
use Rattle.wesl_visit_rewrite.proofs.Steps.{inside, unmoved, viewed}
use Rattle.wesl_visit_rewrite.proofs.replace.attribute.at_optional_type.Goals as goal

pub returns-in-None : goal.returns-in-None
returns-in-None g c =
    let p = ap (optional type_view) c.in-None.is in
    viewed _ _ p p (unmoved _ refl)

pub returns-in-Some : goal.returns-in-Some
returns-in-Some g c =
    let d = c.at_type in
    viewed _ (optional type_view (Some d.new.ty)) (ap (optional type_view) c.in-Some.is) refl (inside (kind present) refl refl d.ensures)
