-- The grammar: for each node the parts of its text, in document order (WGSL, "Grammar"; WESL, "Imports", "Conditional Translation").
use Rattle.std.specs.Prelude.{zero, Bool, true, false, if◌then◌else◌, List, [], ◌∷◌, Option, Some, None, codes}
use Rattle.wesl_tree_names.specs.Path.{Text}
use Rattle.wesl_tree_syntax.specs.Tree.{Kind, Role, binder, reference, word, LabelOf, kind, at, unary, binary, assignment, space, access, expression_node, statement_node, attribute_node, member_node, import_node, directive_node, declaration_node, literal, parenthesized, named_component, indexing, call_expression, call, type_or_identifier, type_expression, template_argument, list, present, absent, attributes, statements, clauses, members, parameters, align, binding, blend_src, builtin, const_attribute, diagnostic, group, id, interpolate, invariant_attribute, location, must_use, size, workgroup_size, vertex, fragment, compute, publish, if_attribute, elif_attribute, else_attribute, custom, void, compound_statement, compound, increment, decrement, if_statement, if_clause, else_if_clause, else_clause, switch, switch_clause, default_case, expression_case, loop, continuing, break_if, for_loop, while_loop, break, continue, return, discard, call_statement, const_assert, import_statement, import_item, import_collection, import_entry, diagnostic_directive, enable_directive, requires_directive, type_alias, struct, member, function, parameter, declaration, const_kind, override_kind, let_kind, var_kind, imports, directive_list, declarations, unit}
use Rattle.wesl_tree_syntax.specs.Kinds.{same_kind}
use Rattle.wesl_text_tokens.specs.declared.symbol.Symbol.{Symbol}
use Rattle.wesl_text_tokens.specs.declared.symbol.Symbol.TheVariants as is
use Rattle.wesl_tree_syntax.specs.declared.statement.AssignmentOperator.{AssignmentOperator}
use Rattle.wesl_tree_syntax.specs.declared.statement.AssignmentOperator.TheVariants as assignment_operator
use Rattle.wesl_text_form.specs.Operators.{unary_symbol, binary_symbol, assignment_symbol, space_word, access_word}

-- What a node may be a child as. A bare one has no span: it stands in a node that has one.
pub data Sort : Type 0 where
  an_expression : Sort
  a_bare_expression : Sort
  a_call : Sort
  a_type : Sort
  an_argument : Sort
  an_attribute : Sort
  a_bare_attribute : Sort
  a_body : Sort
  an_if : Sort
  an_else_if : Sort
  an_else : Sort
  a_clause : Sort
  a_selector : Sort
  a_continuing : Sort
  a_break_if : Sort
  a_kind : Sort
  a_space : Sort
  an_access : Sort
  a_content : Sort
  an_entry : Sort
  an_import : Sort
  a_bare_import : Sort
  a_directive : Sort
  a_bare_directive : Sort
  a_member : Sort
  a_bare_member : Sort
  a_parameter : Sort
  a_statement : Sort
  a_bare_statement : Sort
  a_declaration : Sort
  a_bare_declaration : Sort

-- a child without children
pub data Leaf : Type 0 where
  -- an identifier in this role, which is a name
  an_ident : Role → Leaf
  -- what an import brings in: a word where it gets a new name, which comes next, else a binder
  an_item : Leaf
  -- a text that is a name, a word, or a word that is no attribute known by name
  a_name : Leaf
  a_word : Leaf
  a_custom : Leaf
  -- `true`, `false`, or the text of a number
  a_literal : Leaf
  -- one word, or two with a `.` between
  a_rule : Leaf
  -- words with commas between
  some_words : Leaf
  -- the same, one or two
  one_or_two : Leaf
  -- names, each with `::` behind it
  steps : Leaf
  -- a path, with `::` behind each of its names; slashes in the name of a package where so
  a_path : Bool → Leaf

-- the parts of a text in order: tokens, and children of the node
pub data Row : Type 0 where
  nothing : Row
  sym : Symbol → Row → Row
  -- a symbol that need not stand
  may_sym : Symbol → Row → Row
  -- a keyword
  says : Text → Row → Row
  -- the brackets of a template list
  opens : Row → Row
  closes : Row → Row
  -- the next child
  own : Sort → Row → Row
  leaf : Leaf → Row → Row
  -- the children of the next child, which is of this kind, one behind the other, or with commas between and perhaps one behind
  run : Kind → Sort → Row → Row
  commas : Kind → Sort → Row → Row
  -- the next child is an option: nothing, or its children by this row
  optional : Row → Row → Row
  -- the children of the next child, which is of this kind, by this row
  inside : Kind → Row → Row → Row
  -- the target of `=`, which may be `_`
  target : Row → Row
  -- the selectors of a clause
  selectors : Row → Row
  -- the next child without its last token, the `;`
  unended : Sort → Row → Row
  -- `->`, where the child behind the next one is there; else the next one has no children
  arrow : Row → Row

-- the attributes of a node
abbrev pub attrs : Row → Row
attrs row = run attributes an_attribute row

-- rows, each for the nodes of one kind
abbrev pub Rows : Type 0
Rows = List (Kind × Row)

-- the row of a kind
abbrev pub row_at : Rows → Kind → Option Row
row_at [] k = None
row_at (p ∷ ps) k = if same_kind k p.0 then Some p.1 else row_at ps k

-- a node with its span has one child
abbrev pub spanned : Kind → Sort → Kind → Option Row
spanned k s given = if same_kind k given then Some (own s nothing) else None

abbrev pub rows_of_bare_expression : Rows
rows_of_bare_expression =
    (literal, leaf a_literal nothing)
    ∷ (parenthesized, sym is.ParenLeft (own an_expression (sym is.ParenRight nothing)))
    ∷ (named_component, own an_expression (sym is.Period (leaf a_name nothing)))
    ∷ (indexing, own an_expression (sym is.BracketLeft (own an_expression (sym is.BracketRight nothing))))
    ∷ (call_expression, own a_call nothing)
    ∷ (type_or_identifier, own a_type nothing)
    ∷ []

abbrev pub rows_of_call : Rows
rows_of_call =
    (call, own a_type (sym is.ParenLeft (commas list an_expression (sym is.ParenRight nothing))))
    ∷ []

abbrev pub rows_of_type : Rows
rows_of_type =
    (type_expression, optional (leaf (a_path false) nothing) (leaf (an_ident reference) (optional (opens (commas list an_argument (closes nothing))) nothing)))
    ∷ []

abbrev pub rows_of_argument : Rows
rows_of_argument =
    (template_argument, own an_expression nothing)
    ∷ []

abbrev pub rows_of_bare_attribute : Rows
rows_of_bare_attribute =
    (const_attribute, sym is.At (says (codes "const") nothing))
    ∷ (invariant_attribute, sym is.At (says (codes "invariant") nothing))
    ∷ (must_use, sym is.At (says (codes "must_use") nothing))
    ∷ (vertex, sym is.At (says (codes "vertex") nothing))
    ∷ (fragment, sym is.At (says (codes "fragment") nothing))
    ∷ (compute, sym is.At (says (codes "compute") nothing))
    ∷ (publish, sym is.At (says (codes "publish") nothing))
    ∷ (else_attribute, sym is.At (says (codes "else") nothing))
    ∷ (align, sym is.At (says (codes "align") (sym is.ParenLeft (own an_expression (may_sym is.Comma (sym is.ParenRight nothing))))))
    ∷ (binding, sym is.At (says (codes "binding") (sym is.ParenLeft (own an_expression (may_sym is.Comma (sym is.ParenRight nothing))))))
    ∷ (blend_src, sym is.At (says (codes "blend_src") (sym is.ParenLeft (own an_expression (may_sym is.Comma (sym is.ParenRight nothing))))))
    ∷ (group, sym is.At (says (codes "group") (sym is.ParenLeft (own an_expression (may_sym is.Comma (sym is.ParenRight nothing))))))
    ∷ (id, sym is.At (says (codes "id") (sym is.ParenLeft (own an_expression (may_sym is.Comma (sym is.ParenRight nothing))))))
    ∷ (location, sym is.At (says (codes "location") (sym is.ParenLeft (own an_expression (may_sym is.Comma (sym is.ParenRight nothing))))))
    ∷ (size, sym is.At (says (codes "size") (sym is.ParenLeft (own an_expression (may_sym is.Comma (sym is.ParenRight nothing))))))
    ∷ (if_attribute, sym is.At (says (codes "if") (sym is.ParenLeft (own an_expression (may_sym is.Comma (sym is.ParenRight nothing))))))
    ∷ (elif_attribute, sym is.At (says (codes "elif") (sym is.ParenLeft (own an_expression (may_sym is.Comma (sym is.ParenRight nothing))))))
    ∷ (builtin, sym is.At (says (codes "builtin") (sym is.ParenLeft (leaf a_word (may_sym is.Comma (sym is.ParenRight nothing))))))
    ∷ (diagnostic, sym is.At (says (codes "diagnostic") (sym is.ParenLeft (leaf a_word (sym is.Comma (leaf a_rule (may_sym is.Comma (sym is.ParenRight nothing))))))))
    ∷ (interpolate, sym is.At (says (codes "interpolate") (sym is.ParenLeft (leaf one_or_two (sym is.ParenRight nothing)))))
    ∷ (workgroup_size, sym is.At (says (codes "workgroup_size") (sym is.ParenLeft (own an_expression (optional (sym is.Comma (own an_expression nothing)) (optional (sym is.Comma (own an_expression nothing)) (may_sym is.Comma (sym is.ParenRight nothing))))))))
    ∷ (custom, sym is.At (leaf a_custom (optional (sym is.ParenLeft (commas list an_expression (sym is.ParenRight nothing))) nothing)))
    ∷ []

abbrev pub rows_of_body : Rows
rows_of_body =
    (compound, attrs (sym is.BraceLeft (run statements a_statement (sym is.BraceRight nothing))))
    ∷ []

abbrev pub rows_of_if : Rows
rows_of_if =
    (if_clause, says (codes "if") (own an_expression (own a_body nothing)))
    ∷ []

abbrev pub rows_of_else_if : Rows
rows_of_else_if =
    (else_if_clause, attrs (says (codes "else") (says (codes "if") (own an_expression (own a_body nothing)))))
    ∷ []

abbrev pub rows_of_else : Rows
rows_of_else =
    (else_clause, attrs (says (codes "else") (own a_body nothing)))
    ∷ []

abbrev pub rows_of_clause : Rows
rows_of_clause =
    (switch_clause, attrs (selectors (may_sym is.Colon (own a_body nothing))))
    ∷ []

abbrev pub rows_of_selector : Rows
rows_of_selector =
    (default_case, says (codes "default") nothing)
    ∷ (expression_case, own an_expression nothing)
    ∷ []

abbrev pub rows_of_continuing : Rows
rows_of_continuing =
    (continuing, attrs (says (codes "continuing") (inside compound (attrs (sym is.BraceLeft (run statements a_statement nothing))) (optional (own a_break_if nothing) (sym is.BraceRight nothing)))))
    ∷ []

abbrev pub rows_of_break_if : Rows
rows_of_break_if =
    (break_if, attrs (says (codes "break") (says (codes "if") (own an_expression (sym is.Semicolon nothing)))))
    ∷ []

abbrev pub rows_of_kind : Rows
rows_of_kind =
    (const_kind, says (codes "const") nothing)
    ∷ (override_kind, says (codes "override") nothing)
    ∷ (let_kind, says (codes "let") nothing)
    ∷ (var_kind, says (codes "var") (optional (opens (own a_space (may_sym is.Comma (closes nothing)))) nothing))
    ∷ []

abbrev pub rows_of_content : Rows
rows_of_content =
    (import_item, leaf an_item (optional (says (codes "as") (leaf (an_ident binder) nothing)) nothing))
    ∷ (import_collection, sym is.BraceLeft (commas list an_entry (sym is.BraceRight nothing)))
    ∷ []

abbrev pub rows_of_entry : Rows
rows_of_entry =
    (import_entry, leaf steps (own a_content nothing))
    ∷ []

abbrev pub rows_of_bare_import : Rows
rows_of_bare_import =
    (import_statement, attrs (says (codes "import") (optional (leaf (a_path true) nothing) (own a_content (sym is.Semicolon nothing)))))
    ∷ []

abbrev pub rows_of_bare_directive : Rows
rows_of_bare_directive =
    (diagnostic_directive, attrs (says (codes "diagnostic") (sym is.ParenLeft (leaf a_word (sym is.Comma (leaf a_rule (may_sym is.Comma (sym is.ParenRight (sym is.Semicolon nothing)))))))))
    ∷ (enable_directive, attrs (says (codes "enable") (leaf some_words (sym is.Semicolon nothing))))
    ∷ (requires_directive, attrs (says (codes "requires") (leaf some_words (sym is.Semicolon nothing))))
    ∷ []

abbrev pub rows_of_bare_member : Rows
rows_of_bare_member =
    (member, attrs (leaf a_name (sym is.Colon (own a_type nothing))))
    ∷ []

abbrev pub rows_of_parameter : Rows
rows_of_parameter =
    (parameter, attrs (leaf (an_ident binder) (sym is.Colon (own a_type nothing))))
    ∷ []

abbrev pub rows_of_bare_statement : Rows
rows_of_bare_statement =
    (declaration, attrs (own a_kind (leaf (an_ident binder) (optional (sym is.Colon (own a_type nothing)) (optional (sym is.Equal (own an_expression nothing)) (sym is.Semicolon nothing))))))
    ∷ (const_assert, attrs (says (codes "const_assert") (own an_expression (sym is.Semicolon nothing))))
    ∷ (void, sym is.Semicolon nothing)
    ∷ (compound_statement, own a_body nothing)
    ∷ (increment, attrs (own an_expression (sym is.PlusPlus (sym is.Semicolon nothing))))
    ∷ (decrement, attrs (own an_expression (sym is.MinusMinus (sym is.Semicolon nothing))))
    ∷ (if_statement, attrs (own an_if (run list an_else_if (optional (own an_else nothing) nothing))))
    ∷ (switch, attrs (says (codes "switch") (own an_expression (attrs (sym is.BraceLeft (run clauses a_clause (sym is.BraceRight nothing)))))))
    ∷ (loop, attrs (says (codes "loop") (inside compound (attrs (sym is.BraceLeft (run statements a_statement nothing))) (optional (own a_continuing nothing) (sym is.BraceRight nothing)))))
    ∷ (for_loop, attrs (says (codes "for") (sym is.ParenLeft (optional (unended a_statement nothing) (sym is.Semicolon (optional (own an_expression nothing) (sym is.Semicolon (optional (unended a_statement nothing) (sym is.ParenRight (own a_body nothing))))))))))
    ∷ (while_loop, attrs (says (codes "while") (own an_expression (own a_body nothing))))
    ∷ (break, attrs (says (codes "break") (sym is.Semicolon nothing)))
    ∷ (continue, attrs (says (codes "continue") (sym is.Semicolon nothing)))
    ∷ (discard, attrs (says (codes "discard") (sym is.Semicolon nothing)))
    ∷ (return, attrs (says (codes "return") (optional (own an_expression nothing) (sym is.Semicolon nothing))))
    ∷ (call_statement, attrs (own a_call (sym is.Semicolon nothing)))
    ∷ []

abbrev pub rows_of_bare_declaration : Rows
rows_of_bare_declaration =
    (declaration, attrs (own a_kind (leaf (an_ident binder) (optional (sym is.Colon (own a_type nothing)) (optional (sym is.Equal (own an_expression nothing)) (sym is.Semicolon nothing))))))
    ∷ (const_assert, attrs (says (codes "const_assert") (own an_expression (sym is.Semicolon nothing))))
    ∷ (void, sym is.Semicolon nothing)
    ∷ (type_alias, attrs (says (codes "alias") (leaf (an_ident binder) (sym is.Equal (own a_type (sym is.Semicolon nothing))))))
    ∷ (struct, attrs (says (codes "struct") (leaf (an_ident binder) (sym is.BraceLeft (commas members a_member (sym is.BraceRight nothing))))))
    ∷ (function, attrs (says (codes "fn") (leaf (an_ident binder) (sym is.ParenLeft (commas parameters a_parameter (sym is.ParenRight (arrow (attrs (optional (own a_type nothing) (own a_body nothing))))))))))
    ∷ []

-- the rows of the nodes of a sort
abbrev pub rows_of : Sort → Rows
rows_of a_bare_expression = rows_of_bare_expression
rows_of a_call = rows_of_call
rows_of a_type = rows_of_type
rows_of an_argument = rows_of_argument
rows_of a_bare_attribute = rows_of_bare_attribute
rows_of a_body = rows_of_body
rows_of an_if = rows_of_if
rows_of an_else_if = rows_of_else_if
rows_of an_else = rows_of_else
rows_of a_clause = rows_of_clause
rows_of a_selector = rows_of_selector
rows_of a_continuing = rows_of_continuing
rows_of a_break_if = rows_of_break_if
rows_of a_kind = rows_of_kind
rows_of a_content = rows_of_content
rows_of an_entry = rows_of_entry
rows_of a_bare_import = rows_of_bare_import
rows_of a_bare_directive = rows_of_bare_directive
rows_of a_bare_member = rows_of_bare_member
rows_of a_parameter = rows_of_parameter
rows_of a_bare_statement = rows_of_bare_statement
rows_of a_bare_declaration = rows_of_bare_declaration
rows_of _ = []

-- the row of a node that has a span
abbrev pub spanned_row : Sort → Kind → Option Row
spanned_row an_expression k = spanned expression_node a_bare_expression k
spanned_row a_statement k = spanned statement_node a_bare_statement k
spanned_row an_attribute k = spanned attribute_node a_bare_attribute k
spanned_row a_member k = spanned member_node a_bare_member k
spanned_row an_import k = spanned import_node a_bare_import k
spanned_row a_directive k = spanned directive_node a_bare_directive k
spanned_row a_declaration k = spanned declaration_node a_bare_declaration k
spanned_row _ k = None

-- the production of a label in the place of a sort; none where no such node may stand there, nor one with a span other than 0 to 0
abbrev pub row_of : {I : Type 0} → Sort → LabelOf I → Option Row
row_of a_bare_expression (unary o) = Some (sym (unary_symbol o) (own an_expression nothing))
row_of a_bare_expression (binary o) = Some (own an_expression (sym (binary_symbol o) (own an_expression nothing)))
row_of a_bare_statement (assignment assignment_operator.Equal) = Some (attrs (target (sym is.Equal (own an_expression (sym is.Semicolon nothing)))))
row_of a_bare_statement (assignment o) = Some (attrs (own an_expression (sym (assignment_symbol o) (own an_expression (sym is.Semicolon nothing)))))
row_of a_space (space s) = Some (says (space_word s) (optional (sym is.Comma (own an_access nothing)) nothing))
row_of an_access (access a) = Some (says (access_word a) nothing)
row_of s (kind k) = row_at (rows_of s) k
row_of s (at k zero zero) = spanned_row s k
row_of s _ = None
