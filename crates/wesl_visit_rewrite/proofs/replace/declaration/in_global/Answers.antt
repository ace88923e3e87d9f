use Rattle.std.proofs.Common.{refl, ap}
use Rattle.wesl_tree_syntax.specs.View.{global_view}
use Rattle.wesl_tree_syntax.specs.declared.declaration.GlobalDeclaration.TheVariants as made
use Rattle.wesl_visit_rewrite.proofs.Steps.{unmoved, viewed}
use Rattle.wesl_visit_rewrite.proofs.replace.declaration.in_global.Goals as goal

pub returns-in-Void : goal.returns-in-Void
returns-in-Void g c =
    let p = ap global_view c.in-Void.is in
    viewed _ _ p p (unmoved _ refl)

pub returns-in-Declaration : goal.returns-in-Declaration
returns-in-Declaration g c =
    viewed _ (global_view (made.Declaration c.in_declaration.new.declaration)) (ap global_view c.in-Declaration.is) refl c.in_declaration.ensures

pub returns-in-TypeAlias : goal.returns-in-TypeAlias
returns-in-TypeAlias g c =
    viewed _ (global_view (made.TypeAlias c.in_alias.new.alias)) (ap global_view c.in-TypeAlias.is) refl c.in_alias.ensures

pub returns-in-Struct : goal.returns-in-Struct
returns-in-Struct g c =
    viewed _ (global_view (made.Struct c.in_struct.new.structure)) (ap global_view c.in-Struct.is) refl c.in_struct.ensures

pub returns-in-Function : goal.returns-in-Function
returns-in-Function g c =
    viewed _ (global_view (made.Function c.in_function.new.function)) (ap global_view c.in-Function.is) refl c.in_function.ensures

pub returns-in-ConstAssert : goal.returns-in-ConstAssert
returns-in-ConstAssert g c =
    viewed _ (global_view (made.ConstAssert c.in_assert.new.assertion)) (ap global_view c.in-ConstAssert.is) refl c.in_assert.ensures
