-- Small trees, written short: a node type's fields in their order, without spans.
use Rattle.std.specs.Prelude.{List, [], ◌∷◌, map}
use Rattle.wesl_tree_names.specs.Path.{Text, Origin}
use Rattle.wesl_tree_syntax.specs.Tree.{
  Kind,
  LabelOf,
  TreeOf,
  leaf,
  forest_of,
  branch,
  binder,
  reference,
  word,
  at,
  ident,
  text,
  texts,
  unary,
  binary,
  assignment,
  space,
  path,
  expression_node,
  statement_node,
  attribute_node,
  member_node,
  import_node,
  directive_node,
  declaration_node,
  literal,
  call,
  type_or_identifier,
  type_expression,
  template_argument,
  list,
  present,
  absent,
  attributes,
  statements,
  clauses,
  members,
  parameters,
  workgroup_size,
  compound_statement,
  compound,
  if_statement,
  if_clause,
  else_if_clause,
  else_clause,
  switch,
  switch_clause,
  default_case,
  expression_case,
  loop,
  continuing,
  break_if,
  for_loop,
  while_loop,
  call_statement,
  const_assert,
  import_statement,
  import_item,
  import_collection,
  import_entry,
  type_alias,
  struct,
  member,
  function,
  parameter,
  declaration,
  const_kind,
  let_kind,
  var_kind,
  imports,
  directive_list,
  enable_directive,
  declarations,
}
use Rattle.wesl_tree_syntax.specs.declared.expression.UnaryOperator.{UnaryOperator}
use Rattle.wesl_tree_syntax.specs.declared.expression.BinaryOperator.{BinaryOperator}
use Rattle.wesl_tree_syntax.specs.declared.expression.BinaryOperator.TheVariants.{Addition}
use Rattle.wesl_tree_syntax.specs.declared.statement.AssignmentOperator.{AssignmentOperator}
use Rattle.wesl_tree_syntax.specs.declared.declaration.AddressSpace.{AddressSpace}
use Rattle.wesl_tree_syntax.specs.Unit.{UnitOf}

module _ {I : Type 0} where
  -- what others are made of: a node with a label, the node that holds a span (here from 0 to 0), what may be absent and is,
  -- what may be absent and is there, and a list:
  abbrev pub node : LabelOf I → List (TreeOf I) → TreeOf I
  node l ts = record { label = l; children = forest_of ts }

  abbrev pub placed : Kind → TreeOf I → TreeOf I
  placed k t = node (at k 0 0) (t ∷ [])

  abbrev pub none : TreeOf I
  none = branch absent []

  abbrev pub some : TreeOf I → TreeOf I
  some t = branch present (t ∷ [])

  abbrev pub all : List (TreeOf I) → TreeOf I
  all ts = branch list ts

  -- each form of a type and of an expression, where an identifier is a reference, and expressions have their spans:
  abbrev pub plain_type : I → TreeOf I
  plain_type x = branch type_expression (none ∷ leaf (ident reference x) ∷ none ∷ [])

  abbrev pub path_type : Origin → List Text → I → TreeOf I
  path_type origin components x = branch type_expression (some (leaf (path (record { origin = origin; components = components }))) ∷ leaf (ident reference x) ∷ none ∷ [])

  abbrev pub argument : TreeOf I → TreeOf I
  argument e = branch template_argument (e ∷ [])

  abbrev pub type_with : I → List (TreeOf I) → TreeOf I
  type_with x es = branch type_expression (none ∷ leaf (ident reference x) ∷ some (all (map argument es)) ∷ [])

  abbrev pub of_type : TreeOf I → TreeOf I
  of_type t = placed expression_node (branch type_or_identifier (t ∷ []))

  abbrev pub name : I → TreeOf I
  name x = of_type (plain_type x)

  abbrev pub literal_text : Text → TreeOf I
  literal_text s = placed expression_node (branch literal (leaf (text s) ∷ []))

  abbrev pub operate : BinaryOperator → TreeOf I → TreeOf I → TreeOf I
  operate o l r = placed expression_node (node (binary o) (l ∷ r ∷ []))

  abbrev pub plus : TreeOf I → TreeOf I → TreeOf I
  plus l r = operate Addition l r

  abbrev pub apply : UnaryOperator → TreeOf I → TreeOf I
  apply o e = placed expression_node (node (unary o) (e ∷ []))

  abbrev pub called : TreeOf I → List (TreeOf I) → TreeOf I
  called t es = branch call (t ∷ all es ∷ [])

  -- a list of attributes, each with its span, an attribute without and one with an operand, and `@workgroup_size`:
  abbrev pub attrs : List (TreeOf I) → TreeOf I
  attrs xs = branch attributes (map (placed attribute_node) xs)

  abbrev pub plain : Kind → TreeOf I
  plain k = branch k []

  abbrev pub with_operand : Kind → TreeOf I → TreeOf I
  with_operand k e = branch k (e ∷ [])

  abbrev pub workgroup : TreeOf I → TreeOf I → TreeOf I → TreeOf I
  workgroup x y z = branch workgroup_size (x ∷ y ∷ z ∷ [])

  -- an item of an import, one with a new name, a collection, an entry of one, and the path and the whole of an import:
  abbrev pub item : I → TreeOf I
  item x = branch import_item (leaf (ident binder x) ∷ none ∷ [])

  abbrev pub renamed : I → I → TreeOf I
  renamed x y = branch import_item (leaf (ident word x) ∷ some (leaf (ident binder y)) ∷ [])

  abbrev pub collection : List (TreeOf I) → TreeOf I
  collection es = branch import_collection (all es ∷ [])

  abbrev pub entry : List Text → TreeOf I → TreeOf I
  entry p c = branch import_entry (leaf (texts p) ∷ c ∷ [])

  abbrev pub path_of : Origin → List Text → TreeOf I
  path_of origin components = some (leaf (path (record { origin = origin; components = components })))

  abbrev pub import_of : List (TreeOf I) → TreeOf I → TreeOf I → TreeOf I
  import_of a p c = placed import_node (branch import_statement (attrs a ∷ p ∷ c ∷ []))

  -- Each form of a declaration, of a statement, of `enable` and of their parts, where the first list is that of its attributes,
  -- and the name that it declares is a binder. Members and directives have their spans; a statement gets its by `statement`:
  abbrev pub declare : List (TreeOf I) → TreeOf I → I → TreeOf I → TreeOf I → TreeOf I
  declare a k x t e = branch declaration (attrs a ∷ k ∷ leaf (ident binder x) ∷ t ∷ e ∷ [])

  abbrev pub alias : List (TreeOf I) → I → TreeOf I → TreeOf I
  alias a x t = branch type_alias (attrs a ∷ leaf (ident binder x) ∷ t ∷ [])

  abbrev pub member_of : List (TreeOf I) → Text → TreeOf I → TreeOf I
  member_of a n t = placed member_node (branch member (attrs a ∷ leaf (text n) ∷ t ∷ []))

  abbrev pub struct_of : List (TreeOf I) → I → List (TreeOf I) → TreeOf I
  struct_of a x ms = branch struct (attrs a ∷ leaf (ident binder x) ∷ branch members ms ∷ [])

  abbrev pub parameter_of : List (TreeOf I) → I → TreeOf I → TreeOf I
  parameter_of a x t = branch parameter (attrs a ∷ leaf (ident binder x) ∷ t ∷ [])

  abbrev pub statement : TreeOf I → TreeOf I
  statement s = placed statement_node s

  abbrev pub body : List (TreeOf I) → List (TreeOf I) → TreeOf I
  body a ss = branch compound (attrs a ∷ branch statements (map statement ss) ∷ [])

  abbrev pub function_of : List (TreeOf I) → I → List (TreeOf I) → List (TreeOf I) → TreeOf I → TreeOf I → TreeOf I
  function_of a x ps ra r b = branch function (attrs a ∷ leaf (ident binder x) ∷ branch parameters ps ∷ attrs ra ∷ r ∷ b ∷ [])

  abbrev pub assert_of : List (TreeOf I) → TreeOf I → TreeOf I
  assert_of a e = branch const_assert (attrs a ∷ e ∷ [])

  abbrev pub block : TreeOf I → TreeOf I
  block b = branch compound_statement (b ∷ [])

  abbrev pub assign : List (TreeOf I) → AssignmentOperator → TreeOf I → TreeOf I → TreeOf I
  assign a o l r = node (assignment o) (attrs a ∷ l ∷ r ∷ [])

  abbrev pub step : Kind → List (TreeOf I) → TreeOf I → TreeOf I
  step k a e = branch k (attrs a ∷ e ∷ [])

  abbrev pub choose : List (TreeOf I) → TreeOf I → List (TreeOf I) → TreeOf I → TreeOf I
  choose a i es e = branch if_statement (attrs a ∷ i ∷ all es ∷ e ∷ [])

  abbrev pub when : TreeOf I → TreeOf I → TreeOf I
  when e b = branch if_clause (e ∷ b ∷ [])

  abbrev pub or_when : List (TreeOf I) → TreeOf I → TreeOf I → TreeOf I
  or_when a e b = branch else_if_clause (attrs a ∷ e ∷ b ∷ [])

  abbrev pub otherwise : List (TreeOf I) → TreeOf I → TreeOf I
  otherwise a b = branch else_clause (attrs a ∷ b ∷ [])

  abbrev pub switch_of : List (TreeOf I) → TreeOf I → List (TreeOf I) → List (TreeOf I) → TreeOf I
  switch_of a e b cs = branch switch (attrs a ∷ e ∷ attrs b ∷ branch clauses cs ∷ [])

  abbrev pub clause : List (TreeOf I) → List (TreeOf I) → TreeOf I → TreeOf I
  clause a ss b = branch switch_clause (attrs a ∷ all ss ∷ b ∷ [])

  abbrev pub case_of : TreeOf I → TreeOf I
  case_of e = branch expression_case (e ∷ [])

  abbrev pub default : TreeOf I
  default = branch default_case []

  abbrev pub loop_of : List (TreeOf I) → TreeOf I → TreeOf I → TreeOf I
  loop_of a b c = branch loop (attrs a ∷ b ∷ c ∷ [])

  abbrev pub continue_with : List (TreeOf I) → TreeOf I → TreeOf I → TreeOf I
  continue_with a b e = branch continuing (attrs a ∷ b ∷ e ∷ [])

  abbrev pub break_when : List (TreeOf I) → TreeOf I → TreeOf I
  break_when a e = branch break_if (attrs a ∷ e ∷ [])

  abbrev pub for_of : List (TreeOf I) → TreeOf I → TreeOf I → TreeOf I → TreeOf I → TreeOf I
  for_of a i c u b = branch for_loop (attrs a ∷ i ∷ c ∷ u ∷ b ∷ [])

  abbrev pub while_of : List (TreeOf I) → TreeOf I → TreeOf I → TreeOf I
  while_of a e b = branch while_loop (attrs a ∷ e ∷ b ∷ [])

  abbrev pub call_now : List (TreeOf I) → TreeOf I → TreeOf I
  call_now a c = branch call_statement (attrs a ∷ c ∷ [])

  abbrev pub var_of : TreeOf I
  var_of = branch var_kind (none ∷ [])

  abbrev pub var_in : AddressSpace → TreeOf I
  var_in s = branch var_kind (some (node (space s) (none ∷ [])) ∷ [])

  abbrev pub enable_of : List (TreeOf I) → List Text → TreeOf I
  enable_of a ns = placed directive_node (branch enable_directive (attrs a ∷ leaf (texts ns) ∷ []))

  -- a module: its imports, its directives, and its declarations without spans
  abbrev pub module_of : List (TreeOf I) → List (TreeOf I) → List (TreeOf I) → UnitOf I
  module_of is gs ds = record { imports = branch imports is; directives = branch directive_list gs; declarations = branch declarations (map (placed declaration_node) ds) }

  -- the words `const` and `let` of a declaration:
  abbrev pub const_value : TreeOf I
  const_value = branch const_kind []

  abbrev pub let_value : TreeOf I
  let_value = branch let_kind []
