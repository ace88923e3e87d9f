use Rattle.std.proofs.Common.{◌∙◌}
use Rattle.wesl_mangle_forms.proofs.TypeTexts.{normal-alone, normal-inner, normal-literal, normal-with}
use Rattle.wesl_mangle_forms.proofs.types.+normal.Goals as goal

pub is_normal_type-returns-in-None : goal.is_normal_type-returns-in-None
is_normal_type-returns-in-None t c = normal-alone c.args.ty.now c.in-None.is

pub is_normal_type-returns-in-Some : goal.is_normal_type-returns-in-Some
is_normal_type-returns-in-Some t c = c.are_normal_arguments.ensures ∙ normal-with c.args.ty.now c.in-Some.arguments c.in-Some.is

pub is_normal_argument-returns-in-Literal : goal.is_normal_argument-returns-in-Literal
is_normal_argument-returns-in-Literal t c = normal-literal c.args.expression.now _ c.in-Literal.is

pub is_normal_argument-returns-in-TypeOrIdentifier : goal.is_normal_argument-returns-in-TypeOrIdentifier
is_normal_argument-returns-in-TypeOrIdentifier t c = c.is_normal_type.ensures ∙ normal-inner c.args.expression.now c.in-TypeOrIdentifier.ty c.in-TypeOrIdentifier.is
