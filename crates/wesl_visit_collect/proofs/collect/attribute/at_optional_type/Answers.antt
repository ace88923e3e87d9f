use Rattle.std.proofs.Common.{ap, refl}
use Rattle.wesl_tree_syntax.specs.Tree.{kind, present}
use Rattle.wesl_tree_syntax.specs.View.{optional, type_view}
use Rattle.wesl_visit_collect.proofs.Adds.{hollow, inside, viewed}
use Rattle.wesl_visit_collect.proofs.collect.attribute.at_optional_type.Goals as goal

pub returns-in-None : goal.returns-in-None
returns-in-None g c =
    viewed (ap (optional type_view) c.in-None.is) (hollow _ refl)

pub returns-in-Some : goal.returns-in-Some
returns-in-Some g c =
    viewed (ap (optional type_view) c.in-Some.is) (inside (kind present) refl (λ f. refl) c.at_type.ensures)
