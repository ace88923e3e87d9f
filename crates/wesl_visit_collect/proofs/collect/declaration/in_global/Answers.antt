use Rattle.std.proofs.Common.{ap, refl}
use Rattle.wesl_tree_syntax.specs.View.{global_view}
use Rattle.wesl_visit_collect.proofs.Adds.{hollow, viewed}
use Rattle.wesl_visit_collect.proofs.collect.declaration.in_global.Goals as goal

pub returns-in-Void : goal.returns-in-Void
returns-in-Void g c =
    viewed (ap global_view c.in-Void.is) (hollow _ refl)

pub returns-in-Declaration : goal.returns-in-Declaration
returns-in-Declaration g c =
    viewed (ap global_view c.in-Declaration.is) c.in_declaration.ensures

pub returns-in-TypeAlias : goal.returns-in-TypeAlias
returns-in-TypeAlias g c =
    viewed (ap global_view c.in-TypeAlias.is) c.in_alias.ensures

pub returns-in-Struct : goal.returns-in-Struct
returns-in-Struct g c =
    viewed (ap global_view c.in-Struct.is) c.in_struct.ensures

pub returns-in-Function : goal.returns-in-Function
returns-in-Function g c =
    viewed (ap global_view c.in-Function.is) c.in_function.ensures

pub returns-in-ConstAssert : goal.returns-in-ConstAssert
returns-in-ConstAssert g c =
    viewed (ap global_view c.in-ConstAssert.is) c.in_assert.ensures
