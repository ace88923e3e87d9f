-- What nodes hold.
use Rattle.std.specs.Prelude.{◌≡◌, Bool, true, false, ◌&&◌}
use Rattle.wesl_tree_syntax.specs.Tree.{Label, Forest, Tree, end, tree, kind, at, expression_node, statement_node, attributes, if_attribute, elif_attribute, import_statement, diagnostic_directive, enable_directive, requires_directive, type_expression}
use Rattle.wesl_tree_syntax.specs.View.{attribute_view, content_view, expression_view, type_view}
use Rattle.wesl_tree_syntax.specs.declared.attribute.Attribute.{Attribute}
use Rattle.wesl_tree_syntax.specs.declared.expression.Expression.{Expression}
use Rattle.wesl_tree_syntax.specs.declared.expression.TypeExpression.{TypeExpression}
use Rattle.wesl_tree_syntax.specs.declared.import.ImportContent.{ImportContent}

-- whether all labels of trees side by side pass a test; where there are no trees it holds
abbrev pub all_of : (Label → Bool) → Forest → Bool
all_of p end = true
all_of p (tree l children others) = p l && all_of p children && all_of p others

-- whether a label is not that of a statement, of a list of attributes, of `@if` or `@elif`, of an import or of a directive
abbrev pub plain_label : Label → Bool
plain_label (at statement_node s e) = false
plain_label (kind attributes) = false
plain_label (kind if_attribute) = false
plain_label (kind elif_attribute) = false
plain_label (kind import_statement) = false
plain_label (kind diagnostic_directive) = false
plain_label (kind enable_directive) = false
plain_label (kind requires_directive) = false
plain_label _ = true

-- whether a label is not that of a statement or of a list of attributes
abbrev pub flat_label : Label → Bool
flat_label (at statement_node s e) = false
flat_label (kind attributes) = false
flat_label _ = true

-- whether a label is not that of a node of the four kinds, of `@if` or `@elif`, of an import or of a directive
abbrev pub hollow_label : Label → Bool
hollow_label (at expression_node s e) = false
hollow_label (kind type_expression) = false
hollow_label (at statement_node s e) = false
hollow_label (kind attributes) = false
hollow_label (kind if_attribute) = false
hollow_label (kind elif_attribute) = false
hollow_label (kind import_statement) = false
hollow_label (kind diagnostic_directive) = false
hollow_label (kind enable_directive) = false
hollow_label (kind requires_directive) = false
hollow_label _ = true

-- no label in the tree is that of a statement, of a list of attributes, of `@if` or `@elif`, of an import or of a directive
abbrev pub IsPlain : Tree → Type 0
IsPlain t = (plain_label t.label && all_of plain_label t.children) ≡ true

-- no label in the tree is that of a statement or of a list of attributes
abbrev pub IsFlat : Tree → Type 0
IsFlat t = (flat_label t.label && all_of flat_label t.children) ≡ true

-- no label in the tree is that of a node of the four kinds, of `@if` or `@elif`, of an import or of a directive
abbrev pub IsHollow : Tree → Type 0
IsHollow t = (hollow_label t.label && all_of hollow_label t.children) ≡ true

-- no expression holds a statement, a list of attributes, `@if` or `@elif`, an import or a directive
abbrev pub ExpressionsArePlain : Type 0
ExpressionsArePlain = (e : Expression) → IsPlain (expression_view e)

-- no type expression holds a statement, a list of attributes, `@if` or `@elif`, an import or a directive
abbrev pub TypesArePlain : Type 0
TypesArePlain = (t : TypeExpression) → IsPlain (type_view t)

-- no attribute holds a statement or a list of attributes
abbrev pub AttributesAreFlat : Type 0
AttributesAreFlat = (a : Attribute) → IsFlat (attribute_view a)

-- what an import brings in holds no node of the four kinds, no `@if` or `@elif`, no import statement and no directive
abbrev pub ContentsAreHollow : Type 0
ContentsAreHollow = (c : ImportContent) → IsHollow (content_view c)
