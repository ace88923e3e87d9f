-- The table of all nodes: the members of each, in document order, and the short forms.
use Rattle.std.specs.Prelude.{List, [], ◌∷◌, if◌then◌else◌, is_some, Option, Some, None, option_map, option_and_then, codes, map, Bool, true, false, ◌++◌}
use Rattle.serde_json.specs.Data.{Data}
use Rattle.serde_json.specs.Find.{get, as_str, as_bool}
use Rattle.wesl_tree_names.specs.Path.{Text}
use Rattle.wesl_tree_syntax.specs.Tree.{branch, Kind, binder, reference, word, kind, at, ident, truth, expression_node, statement_node, attribute_node, member_node, import_node, directive_node, declaration_node, literal, parenthesized, named_component, indexing, call_expression, call, type_or_identifier, type_expression, template_argument, list, absent, attributes, statements, clauses, members, parameters, align, binding, blend_src, builtin, diagnostic, group, id, interpolate, location, size, workgroup_size, if_attribute, elif_attribute, custom, void, compound_statement, compound, increment, decrement, if_statement, if_clause, else_if_clause, else_clause, switch, switch_clause, default_case, expression_case, loop, continuing, break_if, for_loop, while_loop, break, continue, return, discard, call_statement, const_assert, import_statement, import_item, import_collection, import_entry, diagnostic_directive, enable_directive, requires_directive, type_alias, struct, member, function, parameter, declaration, const_kind, override_kind, let_kind, var_kind, imports, directive_list, declarations, unit}
use Rattle.wesl_json_form.specs.Schema.{Spelled, leaf_of, labelled, look, nonempty, Leaf, an_ident, a_name, a_text, a_literal, some_names, a_path, one_of, Name, a_unit, an_import, a_content, an_entry, a_directive, a_declaration, a_member, a_parameter, a_body, a_statement, an_elif, an_else, a_clause, a_case, a_continuing, a_break_if, a_call, a_type, a_template_argument, an_expression, an_attribute, Form, leaf, list_of, node, Head, fixed, chosen, Row, nothing, needs, may, many, inner, inner_where, Node, node_of_kind, spanned, within, worded, Table, given, second_form, beside}
use Rattle.wesl_json_form.specs.Words.{unary_words, binary_words, assignment_words, space_words, access_words, attribute_words}

-- the word at `k` picks a node
abbrev pub NodeWords : Type 0
NodeWords = List (Text × Node)

-- the node that the word at `k` picks, or the unmarked one where there is no `k`; none for an unknown word or no text
abbrev pub by_word : NodeWords → Option Node → Data → Option Node
by_word words unmarked d = elim (get (codes "k") d) as (λ _. Option Node) [ None ↦ unmarked | Some w ↦ option_and_then (look words) (as_str w) ]

-- the form of a value that is to be an expression
abbrev pub expression : Form
expression = node an_expression

-- the members of a row, and before them the list of attributes, which may be absent
abbrev pub attrs : Row → Row
attrs = many (codes "attrs") (list_of attributes an_attribute)

-- one member at this key, an expression that must be there
abbrev pub one_expression : Text → Row
one_expression k = needs k expression nothing

-- the members of a type; only its name must be there, and empty `args` still are template arguments
abbrev pub type_row : Row
type_row = may (codes "path") (leaf a_path) (needs (codes "name") (leaf (an_ident reference)) (may (codes "args") (list_of list a_template_argument) nothing))

-- the members of a call: the type that is called, and the arguments, none where `args` is absent
abbrev pub call_row : Row
call_row = needs (codes "ty") (node a_type) (many (codes "args") (list_of list an_expression) nothing)

-- the members of a body: attributes and statements
abbrev pub body_row : Row
body_row = attrs (many (codes "stmts") (list_of statements a_statement) nothing)

-- the expression that an attribute, a `const_assert`, an increment, a decrement or a `break if` has alone
abbrev pub operand : Row
operand = one_expression (codes "expr")

-- the names of an `enable`, a `requires` or an `interpolate`; none where they are absent
abbrev pub names_row : Row
names_row = many (codes "names") (leaf some_names) nothing

-- the members of a diagnostic: its severity and its rule, both any texts
abbrev pub severity_row : Row
severity_row = needs (codes "severity") (leaf a_text) (needs (codes "rule") (leaf a_text) nothing)

-- the members of a `const`, `override`, `let` or `var`, by its kind and the row that gives the members of its space
abbrev pub declared : Kind → Row → Row
declared k space_row = attrs (inner (fixed (kind k)) space_row (needs (codes "name") (leaf (an_ident binder)) (may (codes "ty") (node a_type) (may (codes "init") expression nothing))))

-- an access mode stands only with a space
abbrev pub space_row : Row
space_row = inner_where (codes "space") (chosen (codes "space") space_words) (may (codes "access") (leaf (one_of access_words)) nothing) nothing

-- the members of a parameter, a member of a struct or an alias: attributes, a name that is this leaf, and a type
abbrev pub typed_row : Leaf → Row
typed_row l = attrs (needs (codes "name") (leaf l) (needs (codes "ty") (node a_type) nothing))

-- the members of a function; of them only its name and its body must be there
abbrev pub function_row : Row
function_row = attrs (needs (codes "name") (leaf (an_ident binder)) (many (codes "params") (list_of parameters a_parameter)
    (many (codes "ret_attrs") (list_of attributes an_attribute) (may (codes "ret") (node a_type)
    (needs (codes "body") (node a_body) nothing)))))

-- the condition and the body of an `if`, an `else if` or a `while`
abbrev pub condition_row : Row
condition_row = needs (codes "cond") expression (needs (codes "body") (node a_body) nothing)

-- an item's own name is a word where it has another
abbrev pub item_node : Data → Node
item_node d = node_of_kind import_item (needs (codes "item") (leaf (an_ident (if is_some (get (codes "as") d) then word else binder))) (may (codes "as") (leaf (an_ident binder)) nothing))

-- a content of an import that is a list of entries
abbrev pub collection_node : Node
collection_node = node_of_kind import_collection (needs (codes "list") (list_of list an_entry) nothing)

-- the content of an import: a list of entries where the object has the key `list`, else one item
abbrev pub content_node : Data → Node
content_node d = if is_some (get (codes "list") d) then collection_node else item_node d

-- the case `{"k":"default"}` of a switch, which has no other member
abbrev pub a_default_case : Node
a_default_case = (worded (codes "k") (codes "default") (node_of_kind default_case nothing)).1

-- a nonempty text is a type by this name alone
abbrev pub short_type : Data → Option Spelled
short_type d = option_map (λ s. branch type_expression (leaf_of (kind absent) ∷ leaf_of (ident reference s) ∷ leaf_of (kind absent) ∷ [])) (option_and_then nonempty (as_str d))

-- a truth value is a literal, and a nonempty text an identifier or a type by this name alone; neither has a span
abbrev pub short_expression : Data → Option Spelled
short_expression d = elim (as_bool d) as (λ _. Option Spelled) [
  | Some b ↦ Some (labelled (at expression_node 0 0) (branch literal (leaf_of (truth b) ∷ []) ∷ []))
  | None ↦ option_map (λ t. labelled (at expression_node 0 0) (branch type_or_identifier (t ∷ []) ∷ [])) (short_type d)
]

-- the word of an attribute without operand is this attribute, without a span
abbrev pub short_attribute : Data → Option Spelled
short_attribute d = option_map (λ l. labelled (at attribute_node 0 0) (leaf_of l ∷ [])) (option_and_then (look attribute_words) (as_str d))

-- What a value that is no object is in the place of each name: types, expressions (as template arguments and cases too) and
-- attributes have short forms. None where the name has none, or the value is none of them.
abbrev pub shorts_of : Name → Data → Option Spelled
shorts_of a_type d = short_type d
shorts_of an_expression d = short_expression d
shorts_of a_template_argument d = option_map (λ t. branch template_argument (t ∷ [])) (short_expression d)
shorts_of a_case d = option_map (λ t. branch expression_case (t ∷ [])) (short_expression d)
shorts_of an_attribute d = short_attribute d
shorts_of _ d = None

-- the members of a unit: three lists, each of which may be absent
abbrev pub unit_row : Row
unit_row = many (codes "imports") (list_of imports an_import) (many (codes "directives") (list_of directive_list a_directive)
    (many (codes "declarations") (list_of declarations a_declaration) nothing))

module _ (spans : Bool) where
  -- an expression: the node that has its span, and in it the node with this head and row
  abbrev pub expression_node_of : Head → Row → Node
  expression_node_of = spanned spans expression_node

  -- the expressions that have a word at `k` in both forms
  abbrev pub expression_words : NodeWords
  expression_words =
      worded (codes "k") (codes "lit") (expression_node_of (fixed (kind literal)) (needs (codes "text") (leaf a_literal) nothing))
      ∷ worded (codes "k") (codes "paren") (expression_node_of (fixed (kind parenthesized)) (one_expression (codes "expr")))
      ∷ worded (codes "k") (codes "field") (expression_node_of (fixed (kind named_component)) (needs (codes "base") expression (needs (codes "name") (leaf a_name) nothing)))
      ∷ worded (codes "k") (codes "index") (expression_node_of (fixed (kind indexing)) (needs (codes "base") expression (one_expression (codes "index"))))
      ∷ worded (codes "k") (codes "unary") (expression_node_of (chosen (codes "op") unary_words) (one_expression (codes "expr")))
      ∷ worded (codes "k") (codes "binary") (expression_node_of (chosen (codes "op") binary_words) (needs (codes "left") expression (one_expression (codes "right"))))
      ∷ worded (codes "k") (codes "call") (expression_node_of (fixed (kind call_expression)) (inner (fixed (kind call)) call_row nothing))
      ∷ []

  -- truth values as objects, where spans are read
  abbrev pub truth_words : NodeWords
  truth_words =
      worded (codes "k") (codes "true") (expression_node_of (fixed (kind literal)) (given (truth true) nothing))
      ∷ worded (codes "k") (codes "false") (expression_node_of (fixed (kind literal)) (given (truth false) nothing))
      ∷ []

  -- The expressions that have a word at `k`, in form 2 the truth values too. They come last, so that each of the seven
  -- other words is found by computation, whatever the flag.
  abbrev pub all_expression_words : NodeWords
  all_expression_words = expression_words ++ (if spans then truth_words else [])

  -- an object without `k` in the place of an expression: an identifier or a type, with the members of a type
  abbrev pub type_or_identifier_node : Node
  type_or_identifier_node = expression_node_of (fixed (kind type_or_identifier)) (inner (fixed (kind type_expression)) type_row nothing)

  -- an attribute of this kind: its word at `k`, and its members
  abbrev pub attribute_with : Text → Kind → Row → Text × Node
  attribute_with w k row = worded (codes "k") w (spanned spans attribute_node (fixed (kind k)) row)

  -- the attributes that are objects in both forms, each by its word at `k`
  abbrev pub attribute_nodes : NodeWords
  attribute_nodes =
      attribute_with (codes "align") align operand
      ∷ attribute_with (codes "binding") binding operand
      ∷ attribute_with (codes "blend_src") blend_src operand
      ∷ attribute_with (codes "group") group operand
      ∷ attribute_with (codes "id") id operand
      ∷ attribute_with (codes "location") location operand
      ∷ attribute_with (codes "size") size operand
      ∷ attribute_with (codes "if") if_attribute operand
      ∷ attribute_with (codes "elif") elif_attribute operand
      ∷ attribute_with (codes "workgroup_size") workgroup_size (needs (codes "x") expression (may (codes "y") expression (may (codes "z") expression nothing)))
      ∷ attribute_with (codes "builtin") builtin (needs (codes "name") (leaf a_name) nothing)
      ∷ attribute_with (codes "interpolate") interpolate names_row
      ∷ attribute_with (codes "diagnostic") diagnostic severity_row
      ∷ attribute_with (codes "custom") custom (needs (codes "name") (leaf a_name) (may (codes "args") (list_of list an_expression) nothing))
      ∷ []

  -- attributes without operand as objects, where spans are read
  abbrev pub plain_words : NodeWords
  plain_words = map (λ p. worded (codes "k") p.0 (spanned spans attribute_node (fixed p.1) nothing)) attribute_words

  -- the attributes that may be objects: in form 2 those without operand too
  abbrev pub all_attribute_words : NodeWords
  all_attribute_words = attribute_nodes ++ (if spans then plain_words else [])

  -- what may be a global declaration and a statement alike, each by its word at `k`; the kind tells which of them it is
  abbrev pub declared_words : Kind → NodeWords
  declared_words outer =
      worded (codes "k") (codes "const") (spanned spans outer (fixed (kind declaration)) (declared const_kind nothing))
      ∷ worded (codes "k") (codes "override") (spanned spans outer (fixed (kind declaration)) (declared override_kind nothing))
      ∷ worded (codes "k") (codes "let") (spanned spans outer (fixed (kind declaration)) (declared let_kind nothing))
      ∷ worded (codes "k") (codes "var") (spanned spans outer (fixed (kind declaration)) (declared var_kind space_row))
      ∷ worded (codes "k") (codes "assert") (spanned spans outer (fixed (kind const_assert)) (attrs operand))
      ∷ worded (codes "k") (codes "void") (spanned spans outer (fixed (kind void)) nothing)
      ∷ []

  -- the global declarations, each by its word at `k`
  abbrev pub declaration_words : NodeWords
  declaration_words =
      worded (codes "k") (codes "alias") (spanned spans declaration_node (fixed (kind type_alias)) (typed_row (an_ident binder)))
      ∷ worded (codes "k") (codes "struct") (spanned spans declaration_node (fixed (kind struct))
      (attrs (needs (codes "name") (leaf (an_ident binder)) (many (codes "members") (list_of members a_member) nothing))))
      ∷ worded (codes "k") (codes "fn") (spanned spans declaration_node (fixed (kind function)) function_row)
      ∷ declared_words declaration_node

  -- a statement of this kind: its word at `k`, attributes, and its other members
  abbrev pub statement_with : Text → Kind → Row → Text × Node
  statement_with w k row = worded (codes "k") w (spanned spans statement_node (fixed (kind k)) (attrs row))

  -- the statements, each by its word at `k`
  abbrev pub statement_words : NodeWords
  statement_words =
      worded (codes "k") (codes "block") (spanned spans statement_node (fixed (kind compound_statement)) (inner (fixed (kind compound)) body_row nothing))
      ∷ worded (codes "k") (codes "assign") (spanned spans statement_node (chosen (codes "op") assignment_words) (attrs (needs (codes "lhs") expression (one_expression (codes "rhs")))))
      ∷ statement_with (codes "inc") increment operand
      ∷ statement_with (codes "dec") decrement operand
      ∷ statement_with (codes "if") if_statement (inner (fixed (kind if_clause)) condition_row (many (codes "elifs") (list_of list an_elif) (may (codes "else") (node an_else) nothing)))
      ∷ statement_with (codes "switch") switch (needs (codes "expr") expression
      (many (codes "body_attrs") (list_of attributes an_attribute) (many (codes "clauses") (list_of clauses a_clause) nothing)))
      ∷ statement_with (codes "loop") loop (needs (codes "body") (node a_body) (may (codes "continuing") (node a_continuing) nothing))
      ∷ statement_with (codes "for") for_loop (may (codes "init") (node a_statement) (may (codes "cond") expression
      (may (codes "update") (node a_statement) (needs (codes "body") (node a_body) nothing))))
      ∷ statement_with (codes "while") while_loop condition_row
      ∷ statement_with (codes "break") break nothing
      ∷ statement_with (codes "continue") continue nothing
      ∷ statement_with (codes "discard") discard nothing
      ∷ statement_with (codes "return") return (may (codes "expr") expression nothing)
      ∷ statement_with (codes "call") call_statement (needs (codes "call") (node a_call) nothing)
      ∷ declared_words statement_node

  -- a directive of this kind: its word at `k`, attributes, and its other members
  abbrev pub directive_with : Text → Kind → Row → Text × Node
  directive_with w k row = worded (codes "k") w (spanned spans directive_node (fixed (kind k)) (attrs row))

  -- the directives, each by its word at `k`
  abbrev pub directive_words : NodeWords
  directive_words =
      directive_with (codes "enable") enable_directive names_row
      ∷ directive_with (codes "requires") requires_directive names_row
      ∷ directive_with (codes "diagnostic") diagnostic_directive severity_row
      ∷ []

  -- The node that an object is in the place of each name. Directives, declarations, statements, attributes and expressions
  -- (cases and template arguments too) are picked by the word at `k`: none for an unknown word. Without `k` an expression is
  -- a type or an identifier, and the others are none.
  abbrev pub nodes_of : Name → Data → Option Node
  nodes_of a_unit d = Some (record { head = fixed (kind unit); row = beside spans second_form unit_row })
  nodes_of an_import d = Some (spanned spans import_node (fixed (kind import_statement)) (attrs (may (codes "path") (leaf a_path) (needs (codes "content") (node a_content) nothing))))
  nodes_of a_content d = Some (content_node d)
  nodes_of an_entry d = Some (node_of_kind import_entry (many (codes "path") (leaf some_names) (needs (codes "content") (node a_content) nothing)))
  nodes_of a_directive d = by_word directive_words None d
  nodes_of a_declaration d = by_word declaration_words None d
  nodes_of a_member d = Some (spanned spans member_node (fixed (kind member)) (typed_row a_name))
  nodes_of a_parameter d = Some (node_of_kind parameter (typed_row (an_ident binder)))
  nodes_of a_body d = Some (node_of_kind compound body_row)
  nodes_of a_statement d = by_word statement_words None d
  nodes_of an_elif d = Some (node_of_kind else_if_clause (attrs condition_row))
  nodes_of an_else d = Some (node_of_kind else_clause (attrs (needs (codes "body") (node a_body) nothing)))
  nodes_of a_clause d = Some (node_of_kind switch_clause (attrs (many (codes "cases") (list_of list a_case) (needs (codes "body") (node a_body) nothing))))
  nodes_of a_case d = by_word ((codes "default", a_default_case) ∷ map (λ p. (p.0, within expression_case p.1)) all_expression_words) (Some (within expression_case type_or_identifier_node)) d
  nodes_of a_continuing d = Some (node_of_kind continuing (attrs (needs (codes "body") (node a_body) (may (codes "break_if") (node a_break_if) nothing))))
  nodes_of a_break_if d = Some (node_of_kind break_if (attrs operand))
  nodes_of a_call d = Some (node_of_kind call call_row)
  nodes_of a_type d = Some (node_of_kind type_expression type_row)
  nodes_of a_template_argument d = option_map (within template_argument) (by_word all_expression_words (Some type_or_identifier_node) d)
  nodes_of an_expression d = by_word all_expression_words (Some type_or_identifier_node) d
  nodes_of an_attribute d = by_word all_attribute_words None d

  -- the nodes and the short forms of all names: of form 2 where spans are read, else of form 1
  abbrev pub whole_form : Table
  whole_form = record { nodes = nodes_of; shorts = shorts_of }
