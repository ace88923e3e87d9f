-- The tree that each node type stands for: its fields in document order, attributes first.
use Rattle.std.specs.Prelude.{List, [], ◌∷◌, map, String, string_bytes, Vec, Option, Some, None}
use Rattle.std.specs.Box.{box_value}
use Rattle.std.specs.Global.{Box}
use Rattle.std.specs.declared.alloc.Global.{Global}
use Rattle.wesl_tree_syntax.specs.Tree.{Kind, Role, Tree, leaf, forest_of, branch, binder, reference, word, kind, at, ident, text, texts, truth, unary, binary, assignment, space, access, path, expression_node, statement_node, attribute_node, member_node, import_node, directive_node, declaration_node, literal, parenthesized, named_component, indexing, call_expression, call, type_or_identifier, type_expression, template_argument, list, present, absent, attributes, statements, clauses, members, parameters, align, binding, blend_src, builtin, const_attribute, diagnostic, group, id, interpolate, invariant_attribute, location, must_use, size, workgroup_size, vertex, fragment, compute, publish, if_attribute, elif_attribute, else_attribute, custom, void, compound_statement, compound, increment, decrement, if_statement, if_clause, else_if_clause, else_clause, switch, switch_clause, default_case, expression_case, loop, continuing, break_if, for_loop, while_loop, break, continue, return, discard, call_statement, const_assert, import_statement, import_item, import_collection, import_entry, diagnostic_directive, enable_directive, requires_directive, type_alias, struct, member, function, parameter, declaration, const_kind, override_kind, let_kind, var_kind, imports, directive_list, declarations}
use Rattle.wesl_tree_names.specs.Path.{Text, path_view}
use Rattle.wesl_tree_names.specs.declared.names.Ident.{Ident}
use Rattle.wesl_tree_names.specs.declared.path.ModulePath.{ModulePath}
use Rattle.wesl_tree_syntax.specs.declared.span.Spanned.{Spanned}
use Rattle.wesl_tree_syntax.specs.declared.expression.Literal.{Literal}
use Rattle.wesl_tree_syntax.specs.declared.expression.Literal.TheVariants as literals
use Rattle.wesl_tree_syntax.specs.declared.expression.Expression.{Expression, fold-Expression}
use Rattle.wesl_tree_syntax.specs.declared.expression.Expression.TheFolds.{fold-FunctionCall, fold-TemplateArg, fold-TypeExpression}
use Rattle.wesl_tree_syntax.specs.declared.expression.Expression.TheOpen.{Expression-F, TypeExpression-F, FunctionCall-F, TemplateArg-F}
use Rattle.wesl_tree_syntax.specs.declared.expression.FunctionCall.{FunctionCall}
use Rattle.wesl_tree_syntax.specs.declared.expression.TemplateArg.{TemplateArg}
use Rattle.wesl_tree_syntax.specs.declared.expression.TypeExpression.{TypeExpression}
use Rattle.wesl_tree_syntax.specs.declared.attribute.Attribute.{Attribute}
use Rattle.wesl_tree_syntax.specs.declared.attribute.Attribute.TheVariants as attr
use Rattle.wesl_tree_syntax.specs.declared.import.ImportItem.{ImportItem}
use Rattle.wesl_tree_syntax.specs.declared.import.ImportContent.{ImportContent, fold-ImportContent}
use Rattle.wesl_tree_syntax.specs.declared.import.ImportContent.TheFolds.{fold-Import}
use Rattle.wesl_tree_syntax.specs.declared.import.ImportContent.TheOpen.{ImportContent-F, Import-F}
use Rattle.wesl_tree_syntax.specs.declared.import.Import.{Import}
use Rattle.wesl_tree_syntax.specs.declared.import.ImportStatement.{ImportStatement}
use Rattle.wesl_tree_syntax.specs.declared.declaration.GlobalDirective.{GlobalDirective}
use Rattle.wesl_tree_syntax.specs.declared.declaration.GlobalDirective.TheVariants as directives
use Rattle.wesl_tree_syntax.specs.declared.declaration.AddressSpace.{AddressSpace}
use Rattle.wesl_tree_syntax.specs.declared.declaration.AccessMode.{AccessMode}
use Rattle.wesl_tree_syntax.specs.declared.declaration.DeclarationKind.{DeclarationKind}
use Rattle.wesl_tree_syntax.specs.declared.declaration.DeclarationKind.TheVariants as kinds
use Rattle.wesl_tree_syntax.specs.declared.declaration.Declaration.{Declaration}
use Rattle.wesl_tree_syntax.specs.declared.declaration.TypeAlias.{TypeAlias}
use Rattle.wesl_tree_syntax.specs.declared.declaration.StructMember.{StructMember}
use Rattle.wesl_tree_syntax.specs.declared.declaration.Struct.{Struct}
use Rattle.wesl_tree_syntax.specs.declared.declaration.FormalParameter.{FormalParameter}
use Rattle.wesl_tree_syntax.specs.declared.declaration.Function.{Function}
use Rattle.wesl_tree_syntax.specs.declared.declaration.ConstAssert.{ConstAssert}
use Rattle.wesl_tree_syntax.specs.declared.declaration.GlobalDeclaration.{GlobalDeclaration}
use Rattle.wesl_tree_syntax.specs.declared.declaration.GlobalDeclaration.TheVariants as globals
use Rattle.wesl_tree_syntax.specs.declared.statement.CaseSelector.{CaseSelector}
use Rattle.wesl_tree_syntax.specs.declared.statement.CaseSelector.TheVariants as selectors
use Rattle.wesl_tree_syntax.specs.declared.statement.BreakIfStatement.{BreakIfStatement}
use Rattle.wesl_tree_syntax.specs.declared.statement.Statement.{Statement, fold-Statement}
use Rattle.wesl_tree_syntax.specs.declared.statement.Statement.TheFolds.{fold-CompoundStatement, fold-ContinuingStatement, fold-ElseClause, fold-ElseIfClause, fold-IfClause, fold-SwitchClause}
use Rattle.wesl_tree_syntax.specs.declared.statement.Statement.TheOpen.{Statement-F, CompoundStatement-F, ContinuingStatement-F, ElseClause-F, ElseIfClause-F, IfClause-F, SwitchClause-F}
use Rattle.wesl_tree_syntax.specs.declared.statement.CompoundStatement.{CompoundStatement}
use Rattle.wesl_tree_syntax.specs.declared.statement.ContinuingStatement.{ContinuingStatement}
use Rattle.wesl_tree_syntax.specs.declared.statement.ElseClause.{ElseClause}
use Rattle.wesl_tree_syntax.specs.declared.statement.ElseIfClause.{ElseIfClause}
use Rattle.wesl_tree_syntax.specs.declared.statement.IfClause.{IfClause}
use Rattle.wesl_tree_syntax.specs.declared.statement.SwitchClause.{SwitchClause}

-- fields and nodes that hold what `view` sees as a tree
module _ {A : Type 0} (view : A → Tree) where
  -- an optional field: `absent` with nothing below it where it is not there, else `present` with its tree below it
  abbrev pub optional : Option A → Tree
  optional None = leaf (kind absent)
  optional (Some x) = branch present (view x ∷ [])

  -- a list: a node of the given kind, with the items below it in order
  abbrev pub listed : Kind → Vec A Global → Tree
  listed k xs = branch k (map view xs.items)

  -- a node with its span: the span is in the label, the node without it is the one tree below
  abbrev pub placed : Kind → Spanned A → Tree
  placed k x = record { label = at k x.span.start x.span.end; children = forest_of (view x.node ∷ []) }

-- the texts of a list, each by its bytes
abbrev pub texts_of : Vec (String Global) Global → List Text
texts_of v = map string_bytes v.items

-- a module path, as one label
abbrev pub path_tree : ModulePath → Tree
path_tree p = leaf (path (path_view p))

-- a path in a box is seen as the path
abbrev pub boxed_path : Box ModulePath → Tree
boxed_path p = path_tree (box_value p)

-- a text by its bytes, as one label
abbrev pub text_tree : String Global → Tree
text_tree s = leaf (text (string_bytes s))

-- an identifier by its role and its number, as one label
abbrev pub ident_tree : Role → Ident → Tree
ident_tree r i = leaf (ident r i.0)

-- a literal, as one label: `true` and `false` as truth values, a number as the text that is written
abbrev pub literal_tree : Literal → Tree
literal_tree (literals.Bool b) = leaf (truth b)
literal_tree (literals.Text s) = text_tree s

-- One level of an expression, with each node inside already seen as its tree: its kind, or its operator, and below it
-- its parts in source order.
abbrev pub expression_step : Expression-F Tree Tree Tree Tree → Tree
expression_step (Expression-F.Literal l) = branch literal (literal_tree l ∷ [])
expression_step (Expression-F.Parenthesized e) = branch parenthesized (placed (λ t. t) expression_node (box_value e) ∷ [])
expression_step (Expression-F.NamedComponent b n) = branch named_component (placed (λ t. t) expression_node (box_value b) ∷ text_tree n ∷ [])
expression_step (Expression-F.Indexing b i) = branch indexing (placed (λ t. t) expression_node (box_value b) ∷ placed (λ t. t) expression_node (box_value i) ∷ [])
expression_step (Expression-F.Unary o e) = record { label = unary o; children = forest_of (placed (λ t. t) expression_node (box_value e) ∷ []) }
expression_step (Expression-F.Binary o l r) = record { label = binary o; children = forest_of (placed (λ t. t) expression_node (box_value l) ∷ placed (λ t. t) expression_node (box_value r) ∷ []) }
expression_step (Expression-F.FunctionCall c) = branch call_expression (c ∷ [])
expression_step (Expression-F.TypeOrIdentifier t) = branch type_or_identifier (t ∷ [])

-- the same of a call: what is called, then the list of its arguments
abbrev pub call_step : FunctionCall-F Tree Tree Tree Tree → Tree
call_step c = branch call (c.ty ∷ listed (placed (λ t. t) expression_node) list c.arguments ∷ [])

-- the same of a template argument: the expression that it is
abbrev pub argument_step : TemplateArg-F Tree Tree Tree Tree → Tree
argument_step a = branch template_argument (placed (λ t. t) expression_node a.expression ∷ [])

-- the same of a type expression: its path, its name as a reference, its template arguments; path and arguments may be absent
abbrev pub type_step : TypeExpression-F Tree Tree Tree Tree → Tree
type_step t = branch type_expression (optional boxed_path t.path ∷ ident_tree reference t.ident ∷ optional (listed (λ t. t) list) t.template_args ∷ [])

-- what an expression without its span, a call, a template argument and a type expression stand for:
abbrev pub expression_view : Expression → Tree
expression_view = fold-Expression Tree Tree Tree Tree expression_step call_step argument_step type_step

abbrev pub call_view : FunctionCall → Tree
call_view = fold-FunctionCall Tree Tree Tree Tree expression_step call_step argument_step type_step

abbrev pub argument_view : TemplateArg → Tree
argument_view = fold-TemplateArg Tree Tree Tree Tree expression_step call_step argument_step type_step

abbrev pub type_view : TypeExpression → Tree
type_view = fold-TypeExpression Tree Tree Tree Tree expression_step call_step argument_step type_step

-- an expression with its span
abbrev pub expression_tree : Spanned Expression → Tree
expression_tree = placed expression_view expression_node

-- a list of texts, as one label
abbrev pub names_tree : Vec (String Global) Global → Tree
names_tree ns = leaf (texts (texts_of ns))

-- an attribute with one operand
abbrev pub operand_tree : Kind → Spanned Expression → Tree
operand_tree k e = branch k (expression_tree e ∷ [])

-- An attribute without its span: its kind, and below it its operands in source order. The second and the third size of
-- `@workgroup_size` may be absent, and so may the arguments of a custom attribute.
abbrev pub attribute_view : Attribute → Tree
attribute_view (attr.Align e) = operand_tree align e
attribute_view (attr.Binding e) = operand_tree binding e
attribute_view (attr.BlendSrc e) = operand_tree blend_src e
attribute_view (attr.Builtin n) = branch builtin (text_tree n ∷ [])
attribute_view attr.Const = branch const_attribute []
attribute_view (attr.Diagnostic s r) = branch diagnostic (text_tree s ∷ text_tree r ∷ [])
attribute_view (attr.Group e) = operand_tree group e
attribute_view (attr.Id e) = operand_tree id e
attribute_view (attr.Interpolate ns) = branch interpolate (names_tree ns ∷ [])
attribute_view attr.Invariant = branch invariant_attribute []
attribute_view (attr.Location e) = operand_tree location e
attribute_view attr.MustUse = branch must_use []
attribute_view (attr.Size e) = operand_tree size e
attribute_view (attr.WorkgroupSize x y z) = branch workgroup_size (expression_tree x ∷ optional expression_tree y ∷ optional expression_tree z ∷ [])
attribute_view attr.Vertex = branch vertex []
attribute_view attr.Fragment = branch fragment []
attribute_view attr.Compute = branch compute []
attribute_view attr.Publish = branch publish []
attribute_view (attr.If e) = operand_tree if_attribute e
attribute_view (attr.Elif e) = operand_tree elif_attribute e
attribute_view attr.Else = branch else_attribute []
attribute_view (attr.Custom n es) = branch custom (text_tree n ∷ optional (listed expression_tree list) es ∷ [])

-- the attributes of one node, each with its span
abbrev pub attributes_tree : Vec (Spanned Attribute) Global → Tree
attributes_tree = listed (placed attribute_view attribute_node) attributes

-- An imported item. The name that it gets here is a binder: its new name, if it has one, and then its own name is a word;
-- else its own.
abbrev pub item_view : ImportItem → Tree
item_view i = elim i.rename as (λ _. Tree) [
  | None ↦ branch import_item (ident_tree binder i.ident ∷ leaf (kind absent) ∷ [])
  | Some r ↦ branch import_item (ident_tree word i.ident ∷ branch present (ident_tree binder r ∷ []) ∷ [])
]

-- one level of what an import brings in, with each entry already seen as its tree: one item, or a collection of entries
abbrev pub content_step : ImportContent-F Tree Tree → Tree
content_step (ImportContent-F.Item i) = item_view i
content_step (ImportContent-F.Collection is) = branch import_collection (listed (λ t. t) list is ∷ [])

-- the same of an entry of a collection: its components, which may be none, and what it brings in
abbrev pub entry_step : Import-F Tree Tree → Tree
entry_step i = branch import_entry (names_tree i.path ∷ i.content ∷ [])

-- What an import brings in. The order of a fold's types is that of their names.
abbrev pub content_view : ImportContent → Tree
content_view = fold-ImportContent Tree Tree content_step entry_step

-- an entry of a collection
abbrev pub entry_view : Import → Tree
entry_view = fold-Import Tree Tree content_step entry_step

-- an import statement without its span: its attributes, its path, which may be absent, and what it brings in
abbrev pub import_view : ImportStatement → Tree
import_view i = branch import_statement (attributes_tree i.attributes ∷ optional path_tree i.path ∷ content_view i.content ∷ [])

-- a directive without its span: its attributes, then a severity and a rule, or names
abbrev pub directive_view : GlobalDirective → Tree
directive_view (directives.Diagnostic a s r) = branch diagnostic_directive (attributes_tree a ∷ text_tree s ∷ text_tree r ∷ [])
directive_view (directives.Enable a ns) = branch enable_directive (attributes_tree a ∷ names_tree ns ∷ [])
directive_view (directives.Requires a ns) = branch requires_directive (attributes_tree a ∷ names_tree ns ∷ [])

-- an access mode, as one label
abbrev pub access_tree : AccessMode → Tree
access_tree a = leaf (access a)

-- an address space, and its access mode, which may be absent
abbrev pub space_tree : AddressSpace × Option AccessMode → Tree
space_tree s = record { label = space s.0; children = forest_of (optional access_tree s.1 ∷ []) }

-- what a declaration begins with: `const`, `override`, `let`, or `var` and an address space, which may be absent
abbrev pub kind_tree : DeclarationKind → Tree
kind_tree kinds.Const = branch const_kind []
kind_tree kinds.Override = branch override_kind []
kind_tree kinds.Let = branch let_kind []
kind_tree (kinds.Var s) = branch var_kind (optional space_tree s ∷ [])

-- a declaration: its attributes, kind, name, which is a binder, type and first value; the last two may be absent
abbrev pub declaration_view : Declaration → Tree
declaration_view d = branch declaration (attributes_tree d.attributes ∷ kind_tree d.kind ∷ ident_tree binder d.ident ∷ optional type_view d.ty ∷ optional expression_tree d.initializer ∷ [])

-- an alias: its attributes, its name, which is a binder, and the type that it names
abbrev pub alias_view : TypeAlias → Tree
alias_view a = branch type_alias (attributes_tree a.attributes ∷ ident_tree binder a.ident ∷ type_view a.ty ∷ [])

-- a member of a structure without its span: its attributes, its name, which is a text and no identifier, and its type
abbrev pub member_view : StructMember → Tree
member_view m = branch member (attributes_tree m.attributes ∷ text_tree m.name ∷ type_view m.ty ∷ [])

-- a structure: its attributes, its name, which is a binder, and its members, each with its span
abbrev pub struct_view : Struct → Tree
struct_view s = branch struct (attributes_tree s.attributes ∷ ident_tree binder s.ident ∷ listed (placed member_view member_node) members s.members ∷ [])

-- a parameter of a function: its attributes, its name, which is a binder, and its type
abbrev pub parameter_view : FormalParameter → Tree
parameter_view p = branch parameter (attributes_tree p.attributes ∷ ident_tree binder p.ident ∷ type_view p.ty ∷ [])

-- a `const_assert`: its attributes and its condition
abbrev pub assert_view : ConstAssert → Tree
assert_view c = branch const_assert (attributes_tree c.attributes ∷ expression_tree c.expression ∷ [])

-- a selector of a clause of `switch`: `default`, or an expression with its span
abbrev pub selector_view : CaseSelector → Tree
selector_view selectors.Default = branch default_case []
selector_view (selectors.Expression e) = branch expression_case (expression_tree e ∷ [])

-- a `break if`: its attributes and its condition
abbrev pub break_if_view : BreakIfStatement → Tree
break_if_view b = branch break_if (attributes_tree b.attributes ∷ expression_tree b.expression ∷ [])

-- One level of a statement, with the statements, bodies and clauses in it already seen as their trees: its kind, or the
-- operator of an assignment, and below it its attributes and its parts in source order. A `const_assert` and a declaration
-- have no node of their own round them, and a void has nothing below it.
abbrev pub statement_step : Statement-F Tree Tree Tree Tree Tree Tree Tree → Tree
statement_step Statement-F.Void = branch void []
statement_step (Statement-F.Compound b) = branch compound_statement (b ∷ [])
statement_step (Statement-F.Assignment a o l r) = record { label = assignment o; children = forest_of (attributes_tree a ∷ expression_tree l ∷ expression_tree r ∷ []) }
statement_step (Statement-F.Increment a e) = branch increment (attributes_tree a ∷ expression_tree e ∷ [])
statement_step (Statement-F.Decrement a e) = branch decrement (attributes_tree a ∷ expression_tree e ∷ [])
statement_step (Statement-F.If a i es e) = branch if_statement (attributes_tree a ∷ i ∷ listed (λ t. t) list es ∷ optional (λ t. t) e ∷ [])
statement_step (Statement-F.Switch a e b cs) = branch switch (attributes_tree a ∷ expression_tree e ∷ attributes_tree b ∷ listed (λ t. t) clauses cs ∷ [])
statement_step (Statement-F.Loop a b c) = branch loop (attributes_tree a ∷ b ∷ optional (λ t. t) c ∷ [])
statement_step (Statement-F.For a i c u b) = branch for_loop (attributes_tree a
    ∷ optional (λ s. placed (λ t. t) statement_node (box_value s)) i ∷ optional expression_tree c
    ∷ optional (λ s. placed (λ t. t) statement_node (box_value s)) u ∷ b ∷ [])
statement_step (Statement-F.While a e b) = branch while_loop (attributes_tree a ∷ expression_tree e ∷ b ∷ [])
statement_step (Statement-F.Break a) = branch break (attributes_tree a ∷ [])
statement_step (Statement-F.Continue a) = branch continue (attributes_tree a ∷ [])
statement_step (Statement-F.Return a e) = branch return (attributes_tree a ∷ optional expression_tree e ∷ [])
statement_step (Statement-F.Discard a) = branch discard (attributes_tree a ∷ [])
statement_step (Statement-F.FunctionCall a c) = branch call_statement (attributes_tree a ∷ call_view c ∷ [])
statement_step (Statement-F.ConstAssert c) = assert_view c
statement_step (Statement-F.Declaration d) = declaration_view d

-- the same of a body in braces: the attributes before them, and the statements, each with its span
abbrev pub compound_step : CompoundStatement-F Tree Tree Tree Tree Tree Tree Tree → Tree
compound_step b = branch compound (attributes_tree b.attributes ∷ listed (placed (λ t. t) statement_node) statements b.statements ∷ [])

-- the same of `continuing`: its attributes, its body, and its `break if`, which may be absent
abbrev pub continuing_step : ContinuingStatement-F Tree Tree Tree Tree Tree Tree Tree → Tree
continuing_step c = branch continuing (attributes_tree c.attributes ∷ c.body ∷ optional break_if_view c.break_if ∷ [])

-- the same of `else`: its attributes and its body
abbrev pub else_step : ElseClause-F Tree Tree Tree Tree Tree Tree Tree → Tree
else_step c = branch else_clause (attributes_tree c.attributes ∷ c.body ∷ [])

-- the same of `else if`: its attributes, its condition and its body
abbrev pub else_if_step : ElseIfClause-F Tree Tree Tree Tree Tree Tree Tree → Tree
else_if_step c = branch else_if_clause (attributes_tree c.attributes ∷ expression_tree c.expression ∷ c.body ∷ [])

-- the same of what stands after `if`: the condition and its body, without attributes, which the whole statement has
abbrev pub if_step : IfClause-F Tree Tree Tree Tree Tree Tree Tree → Tree
if_step c = branch if_clause (expression_tree c.expression ∷ c.body ∷ [])

-- the same of a clause of `switch`: its attributes, its selectors and its body
abbrev pub clause_step : SwitchClause-F Tree Tree Tree Tree Tree Tree Tree → Tree
clause_step c = branch switch_clause (attributes_tree c.attributes ∷ listed selector_view list c.case_selectors ∷ c.body ∷ [])

-- what a statement without its span, a body in braces, a `continuing`, an `else`, an `else if`, an `if` with its body and a
-- clause of `switch` stand for:
abbrev pub statement_view : Statement → Tree
statement_view = fold-Statement Tree Tree Tree Tree Tree Tree Tree statement_step compound_step continuing_step else_step else_if_step if_step clause_step

abbrev pub compound_view : CompoundStatement → Tree
compound_view = fold-CompoundStatement Tree Tree Tree Tree Tree Tree Tree statement_step compound_step continuing_step else_step else_if_step if_step clause_step

abbrev pub continuing_view : ContinuingStatement → Tree
continuing_view = fold-ContinuingStatement Tree Tree Tree Tree Tree Tree Tree statement_step compound_step continuing_step else_step else_if_step if_step clause_step

abbrev pub else_view : ElseClause → Tree
else_view = fold-ElseClause Tree Tree Tree Tree Tree Tree Tree statement_step compound_step continuing_step else_step else_if_step if_step clause_step

abbrev pub else_if_view : ElseIfClause → Tree
else_if_view = fold-ElseIfClause Tree Tree Tree Tree Tree Tree Tree statement_step compound_step continuing_step else_step else_if_step if_step clause_step

abbrev pub if_view : IfClause → Tree
if_view = fold-IfClause Tree Tree Tree Tree Tree Tree Tree statement_step compound_step continuing_step else_step else_if_step if_step clause_step

abbrev pub clause_view : SwitchClause → Tree
clause_view = fold-SwitchClause Tree Tree Tree Tree Tree Tree Tree statement_step compound_step continuing_step else_step else_if_step if_step clause_step

-- a statement with its span
abbrev pub statement_tree : Spanned Statement → Tree
statement_tree = placed statement_view statement_node

-- A function: its attributes, its name, which is a binder, its parameters, the attributes and the type of its result, and
-- its body. The type may be absent.
abbrev pub function_view : Function → Tree
function_view f = branch function (attributes_tree f.attributes ∷ ident_tree binder f.ident
    ∷ listed parameter_view parameters f.parameters ∷ attributes_tree f.return_attributes
    ∷ optional type_view f.return_type ∷ compound_view f.body ∷ [])

-- a global declaration without its span, as the tree of what it is; a `;` alone is `void`
abbrev pub global_view : GlobalDeclaration → Tree
global_view globals.Void = branch void []
global_view (globals.Declaration d) = declaration_view d
global_view (globals.TypeAlias a) = alias_view a
global_view (globals.Struct s) = struct_view s
global_view (globals.Function f) = function_view f
global_view (globals.ConstAssert c) = assert_view c

-- the imports, the directives and the declarations of a module, each with its span:
abbrev pub imports_tree : Vec (Spanned ImportStatement) Global → Tree
imports_tree = listed (placed import_view import_node) imports

abbrev pub directives_tree : Vec (Spanned GlobalDirective) Global → Tree
directives_tree = listed (placed directive_view directive_node) directive_list

abbrev pub declarations_tree : Vec (Spanned GlobalDeclaration) Global → Tree
declarations_tree = listed (placed global_view declaration_node) declarations
