use Rattle.std.proofs.Common.{ap, refl}
use Rattle.wesl_tree_syntax.specs.Tree.{before, end, kind, leaf, void}
use Rattle.wesl_tree_syntax.specs.View.{global_view}
use Rattle.wesl_scope_spans.proofs.Steps.{none, viewed}
use Rattle.wesl_scope_spans.proofs.declarations.in_global.Goals as goal

pub returns-in-Void : goal.returns-in-Void
returns-in-Void c = viewed (ap global_view c.in-Void.is) (none (before (leaf (kind void)) end) refl)

pub returns-in-Declaration : goal.returns-in-Declaration
returns-in-Declaration c = viewed (ap global_view c.in-Declaration.is) c.in_declaration.ensures

pub returns-in-TypeAlias : goal.returns-in-TypeAlias
returns-in-TypeAlias c = viewed (ap global_view c.in-TypeAlias.is) c.in_alias.ensures

pub returns-in-Struct : goal.returns-in-Struct
returns-in-Struct c = viewed (ap global_view c.in-Struct.is) c.in_structure.ensures

pub returns-in-Function : goal.returns-in-Function
returns-in-Function c = viewed (ap global_view c.in-Function.is) c.in_function.ensures

pub returns-in-ConstAssert : goal.returns-in-ConstAssert
returns-in-ConstAssert c = viewed (ap global_view c.in-ConstAssert.is) (c.in_assertion.ensures c.args.round)
