-- Labelled ordered trees: what a syntax tree says, in document order.
use Rattle.std.specs.Prelude.{ℕ, Bool, true, ◌&&◌, List, [], ◌∷◌, ◌++◌, nat_lt}
use Rattle.wesl_tree_names.specs.Path.{Text, Path}
use Rattle.wesl_tree_syntax.specs.declared.expression.UnaryOperator.{UnaryOperator}
use Rattle.wesl_tree_syntax.specs.declared.expression.BinaryOperator.{BinaryOperator}
use Rattle.wesl_tree_syntax.specs.declared.statement.AssignmentOperator.{AssignmentOperator}
use Rattle.wesl_tree_syntax.specs.declared.declaration.AddressSpace.{AddressSpace}
use Rattle.wesl_tree_syntax.specs.declared.declaration.AccessMode.{AccessMode}

-- One word for each node type, each variant, and the lists and options between them.
pub data Kind : Type 0 where
  -- nodes that have a span
  expression_node : Kind
  statement_node : Kind
  attribute_node : Kind
  member_node : Kind
  import_node : Kind
  directive_node : Kind
  declaration_node : Kind
  -- expressions
  literal : Kind
  parenthesized : Kind
  named_component : Kind
  indexing : Kind
  call_expression : Kind
  call : Kind
  type_or_identifier : Kind
  type_expression : Kind
  template_argument : Kind
  -- lists and options
  list : Kind
  present : Kind
  absent : Kind
  attributes : Kind
  statements : Kind
  clauses : Kind
  members : Kind
  parameters : Kind
  -- attributes
  align : Kind
  binding : Kind
  blend_src : Kind
  builtin : Kind
  const_attribute : Kind
  diagnostic : Kind
  group : Kind
  id : Kind
  interpolate : Kind
  invariant_attribute : Kind
  location : Kind
  must_use : Kind
  size : Kind
  workgroup_size : Kind
  vertex : Kind
  fragment : Kind
  compute : Kind
  publish : Kind
  if_attribute : Kind
  elif_attribute : Kind
  else_attribute : Kind
  custom : Kind
  -- statements
  void : Kind
  compound_statement : Kind
  compound : Kind
  increment : Kind
  decrement : Kind
  if_statement : Kind
  if_clause : Kind
  else_if_clause : Kind
  else_clause : Kind
  switch : Kind
  switch_clause : Kind
  default_case : Kind
  expression_case : Kind
  loop : Kind
  continuing : Kind
  break_if : Kind
  for_loop : Kind
  while_loop : Kind
  break : Kind
  continue : Kind
  return : Kind
  discard : Kind
  call_statement : Kind
  const_assert : Kind
  -- imports, directives and declarations
  import_statement : Kind
  import_item : Kind
  import_collection : Kind
  import_entry : Kind
  diagnostic_directive : Kind
  enable_directive : Kind
  requires_directive : Kind
  type_alias : Kind
  struct : Kind
  member : Kind
  function : Kind
  parameter : Kind
  declaration : Kind
  const_kind : Kind
  override_kind : Kind
  let_kind : Kind
  var_kind : Kind
  imports : Kind
  directive_list : Kind
  declarations : Kind
  unit : Kind

-- how an identifier stands in a tree
pub data Role : Type 0 where
  binder : Role
  reference : Role
  word : Role

-- Labels, where an identifier is an `I`: a number in the trees of the code, a name once each is spelled.
pub data LabelOf (I : Type 0) : Type 0 where
  kind : Kind → LabelOf I
  -- with the span
  at : Kind → ℕ → ℕ → LabelOf I
  ident : Role → I → LabelOf I
  text : Text → LabelOf I
  texts : List Text → LabelOf I
  truth : Bool → LabelOf I
  unary : UnaryOperator → LabelOf I
  binary : BinaryOperator → LabelOf I
  assignment : AssignmentOperator → LabelOf I
  space : AddressSpace → LabelOf I
  access : AccessMode → LabelOf I
  path : Path → LabelOf I

-- `tree l children others`: a tree with this label and these children, and the trees after it
pub data ForestOf (I : Type 0) : Type 0 where
  end : ForestOf I
  tree : LabelOf I → ForestOf I → ForestOf I → ForestOf I

-- one tree: its label, and the trees below it in document order
pub record TreeOf (I : Type 0) : Type 0 where
  pub label : LabelOf I
  pub children : ForestOf I

-- labels, trees side by side and trees of the code, where an identifier is a number:
abbrev pub Label : Type 0
Label = LabelOf ℕ

abbrev pub Forest : Type 0
Forest = ForestOf ℕ

abbrev pub Tree : Type 0
Tree = TreeOf ℕ

module _ {I : Type 0} where
  -- a tree before others
  abbrev pub before : TreeOf I → ForestOf I → ForestOf I
  before t others = tree t.label t.children others

  -- a tree with nothing below it
  abbrev pub leaf : LabelOf I → TreeOf I
  leaf l = record { label = l; children = end }

  -- the trees of a list, side by side
  abbrev pub forest_of : List (TreeOf I) → ForestOf I
  forest_of [] = end
  forest_of (t ∷ ts) = before t (forest_of ts)

  -- a node of this kind with these trees below it
  abbrev pub branch : Kind → List (TreeOf I) → TreeOf I
  branch k ts = record { label = kind k; children = forest_of ts }

  -- the trees that stand side by side
  abbrev pub trees : ForestOf I → List (TreeOf I)
  trees end = []
  trees (tree l children others) = record { label = l; children = children } ∷ trees others

  -- the identifiers in document order
  abbrev pub identifiers : ForestOf I → List I
  identifiers end = []
  identifiers (tree (ident r x) children others) = x ∷ identifiers others
  identifiers (tree l children others) = identifiers children ++ identifiers others

-- whether the number of every identifier is below n, in a label, in trees side by side and in one tree:
abbrev pub label_below : ℕ → Label → Bool
label_below n (ident r i) = nat_lt i n
label_below n _ = true

abbrev pub forest_below : ℕ → Forest → Bool
forest_below n end = true
forest_below n (tree l children others) = label_below n l && forest_below n children && forest_below n others

abbrev pub tree_below : ℕ → Tree → Bool
tree_below n t = label_below n t.label && forest_below n t.children

-- Each identifier replaced, and no spans: spelling, renaming, what identifiers mean and their numbers are all of this form.
module _ {I J : Type 0} (f : I → J) where
  -- a label: an identifier `i` becomes `f i`, a span becomes 0 to 0, and all else stays
  abbrev pub respell_label : LabelOf I → LabelOf J
  respell_label (kind k) = kind k
  respell_label (at k s e) = at k 0 0
  respell_label (ident r i) = ident r (f i)
  respell_label (text x) = text x
  respell_label (texts xs) = texts xs
  respell_label (truth b) = truth b
  respell_label (unary o) = unary o
  respell_label (binary o) = binary o
  respell_label (assignment o) = assignment o
  respell_label (space s) = space s
  respell_label (access a) = access a
  respell_label (path p) = path p

  -- trees side by side, with each label so replaced
  abbrev pub respell_forest : ForestOf I → ForestOf J
  respell_forest end = end
  respell_forest (tree l children others) = tree (respell_label l) (respell_forest children) (respell_forest others)

  -- one tree, with each label so replaced
  abbrev pub respell : TreeOf I → TreeOf J
  respell t = record { label = respell_label t.label; children = respell_forest t.children }
