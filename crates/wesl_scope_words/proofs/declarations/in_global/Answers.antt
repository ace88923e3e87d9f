use Rattle.std.proofs.Common.{ap, refl}
use Rattle.wesl_tree_syntax.specs.Tree.{kind, struct, type_alias}
use Rattle.wesl_tree_syntax.specs.View.{attributes_tree, global_view, type_view}
use Rattle.wesl_scope_words.proofs.Attributes.{attributes_quiet, members_quiet, node_quiet}
use Rattle.wesl_scope_words.proofs.Expressions.{type_quiet}
use Rattle.wesl_scope_words.proofs.Steps.{alone_quiet, beyond, first, inside, still, viewed}
use Rattle.wesl_scope_words.proofs.declarations.in_global.Goals as goal

pub returns-in-Void : goal.returns-in-Void
returns-in-Void c = still (ap global_view c.in-Void.is) refl

pub returns-in-Declaration : goal.returns-in-Declaration
returns-in-Declaration c = viewed (ap global_view c.in-Declaration.is) c.in_declaration.ensures

pub returns-in-TypeAlias : goal.returns-in-TypeAlias
returns-in-TypeAlias c =
    let a = c.in-TypeAlias.field-0 in
    viewed (ap global_view c.in-TypeAlias.is) (inside (kind type_alias) refl (beyond (attributes_tree a.attributes) (attributes_quiet a.attributes) (first c.name.ensures (alone_quiet (type_view a.ty) (type_quiet a.ty)))))

pub returns-in-Struct : goal.returns-in-Struct
returns-in-Struct c =
    let s = c.in-Struct.field-0 in
    viewed (ap global_view c.in-Struct.is) (inside (kind struct) refl (beyond (attributes_tree s.attributes) (attributes_quiet s.attributes) (first c.name-in-Struct.ensures (alone_quiet _ (members_quiet s.members.items)))))

pub returns-in-Function : goal.returns-in-Function
returns-in-Function c = viewed (ap global_view c.in-Function.is) c.in_function.ensures

pub returns-in-ConstAssert : goal.returns-in-ConstAssert
returns-in-ConstAssert c =
    let a = c.in-ConstAssert.field-0 in
    still (ap global_view c.in-ConstAssert.is) (rw (attributes_quiet a.attributes, node_quiet a.expression) refl)
