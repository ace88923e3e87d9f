-- Attributes, directives and what else stands in declarations declare no name.
use Rattle.std.proofs.Common.{◌≡◌, true, List, [], ◌∷◌, map, refl, Option, None, Some, Vec, Global}
use Rattle.wesl_tree_syntax.specs.Tree.{forest_of, attribute_node, directive_node, member_node, list}
use Rattle.wesl_tree_syntax.specs.View.{attribute_view, attributes_tree, expression_tree, type_view, optional, listed, placed, directive_view, directives_tree, member_view, selector_view, break_if_view}
use Rattle.wesl_tree_syntax.specs.declared.attribute.Attribute.{Attribute}
use Rattle.wesl_tree_syntax.specs.declared.attribute.Attribute.TheVariants as attr
use Rattle.wesl_tree_syntax.specs.declared.declaration.GlobalDirective.{GlobalDirective}
use Rattle.wesl_tree_syntax.specs.declared.declaration.GlobalDirective.TheVariants as directives
use Rattle.wesl_tree_syntax.specs.declared.declaration.StructMember.{StructMember}
use Rattle.wesl_tree_syntax.specs.declared.expression.Expression.{Expression}
use Rattle.wesl_tree_syntax.specs.declared.expression.TypeExpression.{TypeExpression}
use Rattle.wesl_tree_syntax.specs.declared.span.Spanned.{Spanned}
use Rattle.wesl_tree_syntax.specs.declared.statement.BreakIfStatement.{BreakIfStatement}
use Rattle.wesl_tree_syntax.specs.declared.statement.CaseSelector.{CaseSelector}
use Rattle.wesl_tree_syntax.specs.declared.statement.CaseSelector.TheVariants as selectors
use Rattle.wesl_scope_words.proofs.Quiet.{is_quiet, IsQuiet}
use Rattle.wesl_scope_words.proofs.Expressions.{expression_quiet, type_quiet}

pub node_quiet : (n : Spanned Expression) → IsQuiet (expression_tree n)
node_quiet n = rw (expression_quiet n.node) refl

nodes_quiet : (es : List (Spanned Expression)) → is_quiet (forest_of (map expression_tree es)) ≡ true
nodes_quiet [] = refl
nodes_quiet (e ∷ es) = rw (node_quiet e, nodes_quiet es) refl

pub optional_node_quiet : (o : Option (Spanned Expression)) → IsQuiet (optional expression_tree o)
optional_node_quiet None = refl
optional_node_quiet (Some e) = rw (node_quiet e) refl

pub optional_type_quiet : (o : Option TypeExpression) → IsQuiet (optional type_view o)
optional_type_quiet None = refl
optional_type_quiet (Some t) = rw (type_quiet t) refl

attribute_quiet : (a : Attribute) → IsQuiet (attribute_view a)
attribute_quiet (attr.Align e) = rw (node_quiet e) refl
attribute_quiet (attr.Binding e) = rw (node_quiet e) refl
attribute_quiet (attr.BlendSrc e) = rw (node_quiet e) refl
attribute_quiet (attr.Builtin n) = refl
attribute_quiet attr.Const = refl
attribute_quiet (attr.Diagnostic s r) = refl
attribute_quiet (attr.Group e) = rw (node_quiet e) refl
attribute_quiet (attr.Id e) = rw (node_quiet e) refl
attribute_quiet (attr.Interpolate ns) = refl
attribute_quiet attr.Invariant = refl
attribute_quiet (attr.Location e) = rw (node_quiet e) refl
attribute_quiet attr.MustUse = refl
attribute_quiet (attr.Size e) = rw (node_quiet e) refl
attribute_quiet (attr.WorkgroupSize x y z) = rw (node_quiet x, optional_node_quiet y, optional_node_quiet z) refl
attribute_quiet attr.Vertex = refl
attribute_quiet attr.Fragment = refl
attribute_quiet attr.Compute = refl
attribute_quiet attr.Publish = refl
attribute_quiet (attr.If e) = rw (node_quiet e) refl
attribute_quiet (attr.Elif e) = rw (node_quiet e) refl
attribute_quiet attr.Else = refl
attribute_quiet (attr.Custom n None) = refl
attribute_quiet (attr.Custom n (Some v)) = rw (nodes_quiet v.items) refl

each_quiet : (ns : List (Spanned Attribute)) → is_quiet (forest_of (map (placed attribute_view attribute_node) ns)) ≡ true
each_quiet [] = refl
each_quiet (a ∷ ns) = rw (attribute_quiet a.node, each_quiet ns) refl

pub attributes_quiet : (v : Vec (Spanned Attribute) Global) → IsQuiet (attributes_tree v)
attributes_quiet v = each_quiet v.items

directive_quiet : (d : GlobalDirective) → IsQuiet (directive_view d)
directive_quiet (directives.Diagnostic a s r) = rw (attributes_quiet a) refl
directive_quiet (directives.Enable a ns) = rw (attributes_quiet a) refl
directive_quiet (directives.Requires a ns) = rw (attributes_quiet a) refl

all_directives : (ds : List (Spanned GlobalDirective)) → is_quiet (forest_of (map (placed directive_view directive_node) ds)) ≡ true
all_directives [] = refl
all_directives (d ∷ ds) = rw (directive_quiet d.node, all_directives ds) refl

pub directives_quiet : (v : Vec (Spanned GlobalDirective) Global) → IsQuiet (directives_tree v)
directives_quiet v = all_directives v.items

pub members_quiet : (ms : List (Spanned StructMember)) → is_quiet (forest_of (map (placed member_view member_node) ms)) ≡ true
members_quiet [] = refl
members_quiet (m ∷ ms) = rw (attributes_quiet m.node.attributes, type_quiet m.node.ty, members_quiet ms) refl

selector_quiet : (s : CaseSelector) → IsQuiet (selector_view s)
selector_quiet selectors.Default = refl
selector_quiet (selectors.Expression e) = rw (node_quiet e) refl

all_selectors : (ss : List CaseSelector) → is_quiet (forest_of (map selector_view ss)) ≡ true
all_selectors [] = refl
all_selectors (s ∷ ss) = rw (selector_quiet s, all_selectors ss) refl

pub selectors_quiet : (v : Vec CaseSelector Global) → IsQuiet (listed selector_view list v)
selectors_quiet v = all_selectors v.items

pub break_if_quiet : (o : Option BreakIfStatement) → IsQuiet (optional break_if_view o)
break_if_quiet None = refl
break_if_quiet (Some b) = rw (attributes_quiet b.attributes, node_quiet b.expression) refl
