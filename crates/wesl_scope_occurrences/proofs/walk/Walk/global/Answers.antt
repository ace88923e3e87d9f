use Rattle.std.proofs.Common.{refl, ap, sym}
use Rattle.wesl_scope_occurrences.specs.Views.{here_view}
use Rattle.wesl_tree_syntax.specs.View.{global_view}
use Rattle.wesl_scope_occurrences.proofs.Steps.{at, lawful, none, over}
use Rattle.wesl_scope_occurrences.proofs.walk.Walk.global.Goals as goal

pub returns-in-Void : goal.returns-in-Void
returns-in-Void g c =
    let l = lawful g.met.H.Handler.none g.met.H.Handler.more in
    over (here_view c.args.here.now) (none l c.args.self.now) (ap global_view c.in-Void.is) refl

pub returns-in-Declaration : goal.returns-in-Declaration
returns-in-Declaration g c =
    at global_view (sym c.in-Declaration.is) c.declaration.ensures

pub returns-in-TypeAlias : goal.returns-in-TypeAlias
returns-in-TypeAlias g c =
    at global_view (sym c.in-TypeAlias.is) c.alias.ensures

pub returns-in-Struct : goal.returns-in-Struct
returns-in-Struct g c =
    at global_view (sym c.in-Struct.is) c.structure.ensures

pub returns-in-Function : goal.returns-in-Function
returns-in-Function g c =
    at global_view (sym c.in-Function.is) c.function.ensures

pub returns-in-ConstAssert : goal.returns-in-ConstAssert
returns-in-ConstAssert g c =
    at global_view (sym c.in-ConstAssert.is) c.assertion.ensures
