use Rattle.std.proofs.Common.{refl}
use Rattle.wesl_visit_collect.proofs.Variants.{type_label}
use Rattle.wesl_visit_collect.proofs.kinds.AttributesKind.pick.Goals as goal

pub returns-in-TypeExpression : goal.returns-in-TypeExpression
returns-in-TypeExpression c = rw c.in-TypeExpression.is (rw (type_label c.in-TypeExpression.field-0.now) refl)
