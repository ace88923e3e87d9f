-- Rows of reading, by computation.
use Rattle.std.specs.Prelude.{◌≡◌, true, [], ◌∷◌, Some, codes}
use Rattle.wesl_tree_names.specs.Path.{absolute, relative, from_package}
use Rattle.wesl_tree_syntax.specs.Tree.{branch, leaf, forest_of, at, ident, binder, reference, word, text, texts, truth, unary, binary, assignment, space, access, path, expression_node, statement_node, attribute_node, member_node, import_node, directive_node, declaration_node, literal, parenthesized, named_component, indexing, call_expression, call, type_or_identifier, type_expression, template_argument, list, present, absent, attributes, statements, clauses, members, parameters, align, binding, builtin, group, id, interpolate, location, workgroup_size, vertex, compute, if_attribute, else_attribute, custom, void, compound_statement, compound, increment, decrement, if_statement, if_clause, else_if_clause, else_clause, switch, switch_clause, default_case, expression_case, loop, continuing, break_if, for_loop, while_loop, break, continue, return, discard, call_statement, const_assert, import_statement, import_item, import_collection, import_entry, diagnostic_directive, enable_directive, requires_directive, type_alias, struct, member, function, parameter, declaration, const_kind, override_kind, var_kind}
use Rattle.wesl_tree_syntax.specs.declared.expression.UnaryOperator.TheVariants as unary_operator
use Rattle.wesl_tree_syntax.specs.declared.expression.BinaryOperator.TheVariants as binary_operator
use Rattle.wesl_tree_syntax.specs.declared.statement.AssignmentOperator.TheVariants as assignment_operator
use Rattle.wesl_tree_syntax.specs.declared.declaration.AddressSpace.TheVariants as address_space
use Rattle.wesl_tree_syntax.specs.declared.declaration.AccessMode.TheVariants as access_mode
use Rattle.wesl_text_tokens.specs.declared.symbol.Symbol.TheVariants as is
use Rattle.wesl_text_tokens.specs.Tokens.{name, number, symbol, open_list, close_list}
use Rattle.wesl_text_form.specs.Productions.{an_import, a_directive, a_declaration}
use Rattle.wesl_text_reading.specs.Reading.{reading}

-- the trees that tokens are read as
abbrev pub TokensAreRead : Type 0
TokensAreRead =
    (reading 20 a_declaration (name (codes "const") ∷ name (codes "a") ∷ symbol is.Equal ∷ number (codes "1") ∷ symbol is.Semicolon ∷ []) ≡ Some ((record { label = at declaration_node 0 0; children = forest_of (branch declaration (branch attributes [] ∷ branch const_kind [] ∷ leaf (ident binder (codes "a")) ∷ branch absent [] ∷ branch present (record { label = at expression_node 0 0; children = forest_of (branch literal (leaf (text (codes "1")) ∷ []) ∷ []) } ∷ []) ∷ []) ∷ []) }), []))
    × (reading 20 a_declaration (name (codes "const") ∷ name (codes "a") ∷ symbol is.Colon ∷ name (codes "i32") ∷ symbol is.Equal ∷ symbol is.Minus ∷ name (codes "b") ∷ symbol is.Semicolon ∷ []) ≡ Some ((record { label = at declaration_node 0 0; children = forest_of (branch declaration (branch attributes [] ∷ branch const_kind [] ∷ leaf (ident binder (codes "a")) ∷ branch present (branch type_expression (branch absent [] ∷ leaf (ident reference (codes "i32")) ∷ branch absent [] ∷ []) ∷ []) ∷ branch present (record { label = at expression_node 0 0; children = forest_of (record { label = unary unary_operator.Negation; children = forest_of (record { label = at expression_node 0 0; children = forest_of (branch type_or_identifier (branch type_expression (branch absent [] ∷ leaf (ident reference (codes "b")) ∷ branch absent [] ∷ []) ∷ []) ∷ []) } ∷ []) } ∷ []) } ∷ []) ∷ []) ∷ []) }), []))
    × (reading 20 a_declaration (name (codes "override") ∷ name (codes "o") ∷ symbol is.Colon ∷ name (codes "f32") ∷ symbol is.Semicolon ∷ []) ≡ Some ((record { label = at declaration_node 0 0; children = forest_of (branch declaration (branch attributes [] ∷ branch override_kind [] ∷ leaf (ident binder (codes "o")) ∷ branch present (branch type_expression (branch absent [] ∷ leaf (ident reference (codes "f32")) ∷ branch absent [] ∷ []) ∷ []) ∷ branch absent [] ∷ []) ∷ []) }), []))
    × (reading 20 a_declaration (symbol is.At ∷ name (codes "id") ∷ symbol is.ParenLeft ∷ number (codes "1") ∷ symbol is.ParenRight ∷ name (codes "override") ∷ name (codes "o") ∷ symbol is.Equal ∷ number (codes "2u") ∷ symbol is.Semicolon ∷ []) ≡ Some ((record { label = at declaration_node 0 0; children = forest_of (branch declaration (branch attributes (record { label = at attribute_node 0 0; children = forest_of (branch id (record { label = at expression_node 0 0; children = forest_of (branch literal (leaf (text (codes "1")) ∷ []) ∷ []) } ∷ []) ∷ []) } ∷ []) ∷ branch override_kind [] ∷ leaf (ident binder (codes "o")) ∷ branch absent [] ∷ branch present (record { label = at expression_node 0 0; children = forest_of (branch literal (leaf (text (codes "2u")) ∷ []) ∷ []) } ∷ []) ∷ []) ∷ []) }), []))
    × (reading 20 a_declaration (name (codes "var") ∷ open_list ∷ name (codes "private") ∷ close_list ∷ name (codes "x") ∷ symbol is.Colon ∷ name (codes "i32") ∷ symbol is.Semicolon ∷ []) ≡ Some ((record { label = at declaration_node 0 0; children = forest_of (branch declaration (branch attributes [] ∷ branch var_kind (branch present (record { label = space address_space.Private; children = forest_of (branch absent [] ∷ []) } ∷ []) ∷ []) ∷ leaf (ident binder (codes "x")) ∷ branch present (branch type_expression (branch absent [] ∷ leaf (ident reference (codes "i32")) ∷ branch absent [] ∷ []) ∷ []) ∷ branch absent [] ∷ []) ∷ []) }), []))
    × (reading 20 a_declaration (name (codes "var") ∷ open_list ∷ name (codes "storage") ∷ symbol is.Comma ∷ name (codes "read_write") ∷ close_list ∷ name (codes "s") ∷ symbol is.Colon ∷ name (codes "array") ∷ open_list ∷ name (codes "vec2") ∷ open_list ∷ name (codes "f32") ∷ close_list ∷ symbol is.Comma ∷ number (codes "3") ∷ close_list ∷ symbol is.Semicolon ∷ []) ≡ Some ((record { label = at declaration_node 0 0; children = forest_of (branch declaration (branch attributes [] ∷ branch var_kind (branch present (record { label = space address_space.Storage; children = forest_of (branch present (leaf (access access_mode.ReadWrite) ∷ []) ∷ []) } ∷ []) ∷ []) ∷ leaf (ident binder (codes "s")) ∷ branch present (branch type_expression (branch absent [] ∷ leaf (ident reference (codes "array")) ∷ branch present (branch list (branch template_argument (record { label = at expression_node 0 0; children = forest_of (branch type_or_identifier (branch type_expression (branch absent [] ∷ leaf (ident reference (codes "vec2")) ∷ branch present (branch list (branch template_argument (record { label = at expression_node 0 0; children = forest_of (branch type_or_identifier (branch type_expression (branch absent [] ∷ leaf (ident reference (codes "f32")) ∷ branch absent [] ∷ []) ∷ []) ∷ []) } ∷ []) ∷ []) ∷ []) ∷ []) ∷ []) ∷ []) } ∷ []) ∷ branch template_argument (record { label = at expression_node 0 0; children = forest_of (branch literal (leaf (text (codes "3")) ∷ []) ∷ []) } ∷ []) ∷ []) ∷ []) ∷ []) ∷ []) ∷ branch absent [] ∷ []) ∷ []) }), []))
    × (reading 20 a_declaration (symbol is.At ∷ name (codes "group") ∷ symbol is.ParenLeft ∷ number (codes "0") ∷ symbol is.ParenRight ∷ symbol is.At ∷ name (codes "binding") ∷ symbol is.ParenLeft ∷ number (codes "1") ∷ symbol is.ParenRight ∷ name (codes "var") ∷ name (codes "t") ∷ symbol is.Colon ∷ name (codes "texture_2d") ∷ open_list ∷ name (codes "f32") ∷ close_list ∷ symbol is.Semicolon ∷ []) ≡ Some ((record { label = at declaration_node 0 0; children = forest_of (branch declaration (branch attributes (record { label = at attribute_node 0 0; children = forest_of (branch group (record { label = at expression_node 0 0; children = forest_of (branch literal (leaf (text (codes "0")) ∷ []) ∷ []) } ∷ []) ∷ []) } ∷ record { label = at attribute_node 0 0; children = forest_of (branch binding (record { label = at expression_node 0 0; children = forest_of (branch literal (leaf (text (codes "1")) ∷ []) ∷ []) } ∷ []) ∷ []) } ∷ []) ∷ branch var_kind (branch absent [] ∷ []) ∷ leaf (ident binder (codes "t")) ∷ branch present (branch type_expression (branch absent [] ∷ leaf (ident reference (codes "texture_2d")) ∷ branch present (branch list (branch template_argument (record { label = at expression_node 0 0; children = forest_of (branch type_or_identifier (branch type_expression (branch absent [] ∷ leaf (ident reference (codes "f32")) ∷ branch absent [] ∷ []) ∷ []) ∷ []) } ∷ []) ∷ []) ∷ []) ∷ []) ∷ []) ∷ branch absent [] ∷ []) ∷ []) }), []))
    × (reading 20 a_declaration (name (codes "alias") ∷ name (codes "A") ∷ symbol is.Equal ∷ name (codes "b") ∷ symbol is.ColonColon ∷ name (codes "c") ∷ open_list ∷ name (codes "d") ∷ close_list ∷ symbol is.Semicolon ∷ []) ≡ Some ((record { label = at declaration_node 0 0; children = forest_of (branch type_alias (branch attributes [] ∷ leaf (ident binder (codes "A")) ∷ branch type_expression (branch present (leaf (path (record { origin = (from_package (codes "b")); components = [] })) ∷ []) ∷ leaf (ident reference (codes "c")) ∷ branch present (branch list (branch template_argument (record { label = at expression_node 0 0; children = forest_of (branch type_or_identifier (branch type_expression (branch absent [] ∷ leaf (ident reference (codes "d")) ∷ branch absent [] ∷ []) ∷ []) ∷ []) } ∷ []) ∷ []) ∷ []) ∷ []) ∷ []) ∷ []) }), []))
    × (reading 20 a_declaration (name (codes "alias") ∷ name (codes "A") ∷ symbol is.Equal ∷ name (codes "super") ∷ symbol is.ColonColon ∷ name (codes "super") ∷ symbol is.ColonColon ∷ name (codes "x") ∷ symbol is.ColonColon ∷ name (codes "T") ∷ symbol is.Semicolon ∷ []) ≡ Some ((record { label = at declaration_node 0 0; children = forest_of (branch type_alias (branch attributes [] ∷ leaf (ident binder (codes "A")) ∷ branch type_expression (branch present (leaf (path (record { origin = (relative 2); components = codes "x" ∷ [] })) ∷ []) ∷ leaf (ident reference (codes "T")) ∷ branch absent [] ∷ []) ∷ []) ∷ []) }), []))
    × (reading 20 a_declaration (name (codes "struct") ∷ name (codes "S") ∷ symbol is.BraceLeft ∷ symbol is.At ∷ name (codes "align") ∷ symbol is.ParenLeft ∷ number (codes "16") ∷ symbol is.ParenRight ∷ name (codes "a") ∷ symbol is.Colon ∷ name (codes "f32") ∷ symbol is.Comma ∷ name (codes "b") ∷ symbol is.Colon ∷ name (codes "u32") ∷ symbol is.BraceRight ∷ []) ≡ Some ((record { label = at declaration_node 0 0; children = forest_of (branch struct (branch attributes [] ∷ leaf (ident binder (codes "S")) ∷ branch members (record { label = at member_node 0 0; children = forest_of (branch member (branch attributes (record { label = at attribute_node 0 0; children = forest_of (branch align (record { label = at expression_node 0 0; children = forest_of (branch literal (leaf (text (codes "16")) ∷ []) ∷ []) } ∷ []) ∷ []) } ∷ []) ∷ leaf (text (codes "a")) ∷ branch type_expression (branch absent [] ∷ leaf (ident reference (codes "f32")) ∷ branch absent [] ∷ []) ∷ []) ∷ []) } ∷ record { label = at member_node 0 0; children = forest_of (branch member (branch attributes [] ∷ leaf (text (codes "b")) ∷ branch type_expression (branch absent [] ∷ leaf (ident reference (codes "u32")) ∷ branch absent [] ∷ []) ∷ []) ∷ []) } ∷ []) ∷ []) ∷ []) }), []))
    × (reading 20 a_declaration (name (codes "struct") ∷ name (codes "E") ∷ symbol is.BraceLeft ∷ symbol is.BraceRight ∷ []) ≡ Some ((record { label = at declaration_node 0 0; children = forest_of (branch struct (branch attributes [] ∷ leaf (ident binder (codes "E")) ∷ branch members [] ∷ []) ∷ []) }), []))
    × (reading 20 a_declaration (symbol is.Semicolon ∷ []) ≡ Some ((record { label = at declaration_node 0 0; children = forest_of (branch void [] ∷ []) }), []))
    × (reading 20 a_declaration (name (codes "const_assert") ∷ name (codes "a") ∷ symbol is.Less ∷ name (codes "b") ∷ symbol is.Semicolon ∷ []) ≡ Some ((record { label = at declaration_node 0 0; children = forest_of (branch const_assert (branch attributes [] ∷ record { label = at expression_node 0 0; children = forest_of (record { label = binary binary_operator.LessThan; children = forest_of (record { label = at expression_node 0 0; children = forest_of (branch type_or_identifier (branch type_expression (branch absent [] ∷ leaf (ident reference (codes "a")) ∷ branch absent [] ∷ []) ∷ []) ∷ []) } ∷ record { label = at expression_node 0 0; children = forest_of (branch type_or_identifier (branch type_expression (branch absent [] ∷ leaf (ident reference (codes "b")) ∷ branch absent [] ∷ []) ∷ []) ∷ []) } ∷ []) } ∷ []) } ∷ []) ∷ []) }), []))
    × (reading 20 an_import (name (codes "import") ∷ name (codes "a") ∷ symbol is.Semicolon ∷ []) ≡ Some ((record { label = at import_node 0 0; children = forest_of (branch import_statement (branch attributes [] ∷ branch absent [] ∷ branch import_item (leaf (ident binder (codes "a")) ∷ branch absent [] ∷ []) ∷ []) ∷ []) }), []))
    × (reading 20 an_import (name (codes "import") ∷ name (codes "package") ∷ symbol is.ColonColon ∷ name (codes "a") ∷ symbol is.ColonColon ∷ name (codes "b") ∷ name (codes "as") ∷ name (codes "c") ∷ symbol is.Semicolon ∷ []) ≡ Some ((record { label = at import_node 0 0; children = forest_of (branch import_statement (branch attributes [] ∷ branch present (leaf (path (record { origin = absolute; components = codes "a" ∷ [] })) ∷ []) ∷ branch import_item (leaf (ident word (codes "b")) ∷ branch present (leaf (ident binder (codes "c")) ∷ []) ∷ []) ∷ []) ∷ []) }), []))
    × (reading 20 an_import (name (codes "import") ∷ name (codes "vendor") ∷ symbol is.Slash ∷ name (codes "noise") ∷ symbol is.ColonColon ∷ symbol is.BraceLeft ∷ name (codes "a") ∷ symbol is.Comma ∷ name (codes "b") ∷ symbol is.ColonColon ∷ symbol is.BraceLeft ∷ name (codes "c") ∷ name (codes "as") ∷ name (codes "d") ∷ symbol is.BraceRight ∷ symbol is.BraceRight ∷ symbol is.Semicolon ∷ []) ≡ Some ((record { label = at import_node 0 0; children = forest_of (branch import_statement (branch attributes [] ∷ branch present (leaf (path (record { origin = (from_package (codes "vendor/noise")); components = [] })) ∷ []) ∷ branch import_collection (branch list (branch import_entry (leaf (texts ([])) ∷ branch import_item (leaf (ident binder (codes "a")) ∷ branch absent [] ∷ []) ∷ []) ∷ branch import_entry (leaf (texts (codes "b" ∷ [])) ∷ branch import_collection (branch list (branch import_entry (leaf (texts ([])) ∷ branch import_item (leaf (ident word (codes "c")) ∷ branch present (leaf (ident binder (codes "d")) ∷ []) ∷ []) ∷ []) ∷ []) ∷ []) ∷ []) ∷ []) ∷ []) ∷ []) ∷ []) }), []))
    × (reading 20 an_import (symbol is.At ∷ name (codes "if") ∷ symbol is.ParenLeft ∷ name (codes "f") ∷ symbol is.ParenRight ∷ name (codes "import") ∷ name (codes "self") ∷ symbol is.ColonColon ∷ name (codes "a") ∷ symbol is.ColonColon ∷ symbol is.BraceLeft ∷ symbol is.BraceRight ∷ symbol is.Semicolon ∷ []) ≡ Some ((record { label = at import_node 0 0; children = forest_of (branch import_statement (branch attributes (record { label = at attribute_node 0 0; children = forest_of (branch if_attribute (record { label = at expression_node 0 0; children = forest_of (branch type_or_identifier (branch type_expression (branch absent [] ∷ leaf (ident reference (codes "f")) ∷ branch absent [] ∷ []) ∷ []) ∷ []) } ∷ []) ∷ []) } ∷ []) ∷ branch present (leaf (path (record { origin = (relative 0); components = codes "a" ∷ [] })) ∷ []) ∷ branch import_collection (branch list [] ∷ []) ∷ []) ∷ []) }), []))
    × (reading 20 a_directive (name (codes "enable") ∷ name (codes "f16") ∷ symbol is.Semicolon ∷ []) ≡ Some ((record { label = at directive_node 0 0; children = forest_of (branch enable_directive (branch attributes [] ∷ leaf (texts (codes "f16" ∷ [])) ∷ []) ∷ []) }), []))
    × (reading 20 a_directive (name (codes "requires") ∷ name (codes "a") ∷ symbol is.Comma ∷ name (codes "b") ∷ symbol is.Semicolon ∷ []) ≡ Some ((record { label = at directive_node 0 0; children = forest_of (branch requires_directive (branch attributes [] ∷ leaf (texts (codes "a" ∷ codes "b" ∷ [])) ∷ []) ∷ []) }), []))
    × (reading 20 a_directive (name (codes "diagnostic") ∷ symbol is.ParenLeft ∷ name (codes "off") ∷ symbol is.Comma ∷ name (codes "derivative_uniformity") ∷ symbol is.ParenRight ∷ symbol is.Semicolon ∷ []) ≡ Some ((record { label = at directive_node 0 0; children = forest_of (branch diagnostic_directive (branch attributes [] ∷ leaf (text (codes "off")) ∷ leaf (text (codes "derivative_uniformity")) ∷ []) ∷ []) }), []))
    × (reading 20 a_directive (name (codes "diagnostic") ∷ symbol is.ParenLeft ∷ name (codes "warning") ∷ symbol is.Comma ∷ name (codes "a") ∷ symbol is.Period ∷ name (codes "b") ∷ symbol is.ParenRight ∷ symbol is.Semicolon ∷ []) ≡ Some ((record { label = at directive_node 0 0; children = forest_of (branch diagnostic_directive (branch attributes [] ∷ leaf (text (codes "warning")) ∷ leaf (text (codes "a.b")) ∷ []) ∷ []) }), []))
    × (reading 20 a_declaration (name (codes "fn") ∷ name (codes "f") ∷ symbol is.ParenLeft ∷ symbol is.ParenRight ∷ symbol is.BraceLeft ∷ symbol is.BraceRight ∷ []) ≡ Some ((record { label = at declaration_node 0 0; children = forest_of (branch function (branch attributes [] ∷ leaf (ident binder (codes "f")) ∷ branch parameters [] ∷ branch attributes [] ∷ branch absent [] ∷ branch compound (branch attributes [] ∷ branch statements [] ∷ []) ∷ []) ∷ []) }), []))
    × (reading 20 a_declaration (symbol is.At ∷ name (codes "vertex") ∷ name (codes "fn") ∷ name (codes "f") ∷ symbol is.ParenLeft ∷ symbol is.At ∷ name (codes "builtin") ∷ symbol is.ParenLeft ∷ name (codes "position") ∷ symbol is.ParenRight ∷ name (codes "p") ∷ symbol is.Colon ∷ name (codes "vec4") ∷ open_list ∷ name (codes "f32") ∷ close_list ∷ symbol is.Comma ∷ name (codes "q") ∷ symbol is.Colon ∷ name (codes "i32") ∷ symbol is.ParenRight ∷ symbol is.Arrow ∷ symbol is.At ∷ name (codes "location") ∷ symbol is.ParenLeft ∷ number (codes "0") ∷ symbol is.ParenRight ∷ name (codes "vec4") ∷ open_list ∷ name (codes "f32") ∷ close_list ∷ symbol is.BraceLeft ∷ name (codes "return") ∷ name (codes "p") ∷ symbol is.Semicolon ∷ symbol is.BraceRight ∷ []) ≡ Some ((record { label = at declaration_node 0 0; children = forest_of (branch function (branch attributes (record { label = at attribute_node 0 0; children = forest_of (branch vertex [] ∷ []) } ∷ []) ∷ leaf (ident binder (codes "f")) ∷ branch parameters (branch parameter (branch attributes (record { label = at attribute_node 0 0; children = forest_of (branch builtin (leaf (text (codes "position")) ∷ []) ∷ []) } ∷ []) ∷ leaf (ident binder (codes "p")) ∷ branch type_expression (branch absent [] ∷ leaf (ident reference (codes "vec4")) ∷ branch present (branch list (branch template_argument (record { label = at expression_node 0 0; children = forest_of (branch type_or_identifier (branch type_expression (branch absent [] ∷ leaf (ident reference (codes "f32")) ∷ branch absent [] ∷ []) ∷ []) ∷ []) } ∷ []) ∷ []) ∷ []) ∷ []) ∷ []) ∷ branch parameter (branch attributes [] ∷ leaf (ident binder (codes "q")) ∷ branch type_expression (branch absent [] ∷ leaf (ident reference (codes "i32")) ∷ branch absent [] ∷ []) ∷ []) ∷ []) ∷ branch attributes (record { label = at attribute_node 0 0; children = forest_of (branch location (record { label = at expression_node 0 0; children = forest_of (branch literal (leaf (text (codes "0")) ∷ []) ∷ []) } ∷ []) ∷ []) } ∷ []) ∷ branch present (branch type_expression (branch absent [] ∷ leaf (ident reference (codes "vec4")) ∷ branch present (branch list (branch template_argument (record { label = at expression_node 0 0; children = forest_of (branch type_or_identifier (branch type_expression (branch absent [] ∷ leaf (ident reference (codes "f32")) ∷ branch absent [] ∷ []) ∷ []) ∷ []) } ∷ []) ∷ []) ∷ []) ∷ []) ∷ []) ∷ branch compound (branch attributes [] ∷ branch statements (record { label = at statement_node 0 0; children = forest_of (branch return (branch attributes [] ∷ branch present (record { label = at expression_node 0 0; children = forest_of (branch type_or_identifier (branch type_expression (branch absent [] ∷ leaf (ident reference (codes "p")) ∷ branch absent [] ∷ []) ∷ []) ∷ []) } ∷ []) ∷ []) ∷ []) } ∷ []) ∷ []) ∷ []) ∷ []) }), []))
    × (reading 20 a_declaration (name (codes "fn") ∷ name (codes "f") ∷ symbol is.ParenLeft ∷ symbol is.ParenRight ∷ symbol is.BraceLeft ∷ name (codes "_") ∷ symbol is.Equal ∷ name (codes "a") ∷ symbol is.Semicolon ∷ symbol is.BraceRight ∷ []) ≡ Some ((record { label = at declaration_node 0 0; children = forest_of (branch function (branch attributes [] ∷ leaf (ident binder (codes "f")) ∷ branch parameters [] ∷ branch attributes [] ∷ branch absent [] ∷ branch compound (branch attributes [] ∷ branch statements (record { label = at statement_node 0 0; children = forest_of (record { label = assignment assignment_operator.Equal; children = forest_of (branch attributes [] ∷ record { label = at expression_node 0 0; children = forest_of (branch type_or_identifier (branch type_expression (branch absent [] ∷ leaf (ident reference (codes "_")) ∷ branch absent [] ∷ []) ∷ []) ∷ []) } ∷ record { label = at expression_node 0 0; children = forest_of (branch type_or_identifier (branch type_expression (branch absent [] ∷ leaf (ident reference (codes "a")) ∷ branch absent [] ∷ []) ∷ []) ∷ []) } ∷ []) } ∷ []) } ∷ []) ∷ []) ∷ []) ∷ []) }), []))
    × (reading 20 a_declaration (name (codes "fn") ∷ name (codes "f") ∷ symbol is.ParenLeft ∷ symbol is.ParenRight ∷ symbol is.BraceLeft ∷ name (codes "x") ∷ symbol is.ShiftLeftEqual ∷ number (codes "1") ∷ symbol is.Semicolon ∷ symbol is.BraceRight ∷ []) ≡ Some ((record { label = at declaration_node 0 0; children = forest_of (branch function (branch attributes [] ∷ leaf (ident binder (codes "f")) ∷ branch parameters [] ∷ branch attributes [] ∷ branch absent [] ∷ branch compound (branch attributes [] ∷ branch statements (record { label = at statement_node 0 0; children = forest_of (record { label = assignment assignment_operator.ShiftLeftAssign; children = forest_of (branch attributes [] ∷ record { label = at expression_node 0 0; children = forest_of (branch type_or_identifier (branch type_expression (branch absent [] ∷ leaf (ident reference (codes "x")) ∷ branch absent [] ∷ []) ∷ []) ∷ []) } ∷ record { label = at expression_node 0 0; children = forest_of (branch literal (leaf (text (codes "1")) ∷ []) ∷ []) } ∷ []) } ∷ []) } ∷ []) ∷ []) ∷ []) ∷ []) }), []))
    × (reading 20 a_declaration (name (codes "fn") ∷ name (codes "f") ∷ symbol is.ParenLeft ∷ symbol is.ParenRight ∷ symbol is.BraceLeft ∷ name (codes "i") ∷ symbol is.PlusPlus ∷ symbol is.Semicolon ∷ symbol is.BraceRight ∷ []) ≡ Some ((record { label = at declaration_node 0 0; children = forest_of (branch function (branch attributes [] ∷ leaf (ident binder (codes "f")) ∷ branch parameters [] ∷ branch attributes [] ∷ branch absent [] ∷ branch compound (branch attributes [] ∷ branch statements (record { label = at statement_node 0 0; children = forest_of (branch increment (branch attributes [] ∷ record { label = at expression_node 0 0; children = forest_of (branch type_or_identifier (branch type_expression (branch absent [] ∷ leaf (ident reference (codes "i")) ∷ branch absent [] ∷ []) ∷ []) ∷ []) } ∷ []) ∷ []) } ∷ []) ∷ []) ∷ []) ∷ []) }), []))
    × (reading 20 a_declaration (name (codes "fn") ∷ name (codes "f") ∷ symbol is.ParenLeft ∷ symbol is.ParenRight ∷ symbol is.BraceLeft ∷ symbol is.ParenLeft ∷ symbol is.Star ∷ name (codes "p") ∷ symbol is.ParenRight ∷ symbol is.Period ∷ name (codes "q") ∷ symbol is.BracketLeft ∷ number (codes "0") ∷ symbol is.BracketRight ∷ symbol is.MinusMinus ∷ symbol is.Semicolon ∷ symbol is.BraceRight ∷ []) ≡ Some ((record { label = at declaration_node 0 0; children = forest_of (branch function (branch attributes [] ∷ leaf (ident binder (codes "f")) ∷ branch parameters [] ∷ branch attributes [] ∷ branch absent [] ∷ branch compound (branch attributes [] ∷ branch statements (record { label = at statement_node 0 0; children = forest_of (branch decrement (branch attributes [] ∷ record { label = at expression_node 0 0; children = forest_of (branch indexing (record { label = at expression_node 0 0; children = forest_of (branch named_component (record { label = at expression_node 0 0; children = forest_of (branch parenthesized (record { label = at expression_node 0 0; children = forest_of (record { label = unary unary_operator.Indirection; children = forest_of (record { label = at expression_node 0 0; children = forest_of (branch type_or_identifier (branch type_expression (branch absent [] ∷ leaf (ident reference (codes "p")) ∷ branch absent [] ∷ []) ∷ []) ∷ []) } ∷ []) } ∷ []) } ∷ []) ∷ []) } ∷ leaf (text (codes "q")) ∷ []) ∷ []) } ∷ record { label = at expression_node 0 0; children = forest_of (branch literal (leaf (text (codes "0")) ∷ []) ∷ []) } ∷ []) ∷ []) } ∷ []) ∷ []) } ∷ []) ∷ []) ∷ []) ∷ []) }), []))
    × (reading 20 a_declaration (name (codes "fn") ∷ name (codes "f") ∷ symbol is.ParenLeft ∷ symbol is.ParenRight ∷ symbol is.BraceLeft ∷ name (codes "g") ∷ symbol is.ParenLeft ∷ name (codes "a") ∷ symbol is.Comma ∷ name (codes "b") ∷ symbol is.ParenRight ∷ symbol is.Semicolon ∷ symbol is.BraceLeft ∷ symbol is.BraceRight ∷ symbol is.Semicolon ∷ symbol is.BraceRight ∷ []) ≡ Some ((record { label = at declaration_node 0 0; children = forest_of (branch function (branch attributes [] ∷ leaf (ident binder (codes "f")) ∷ branch parameters [] ∷ branch attributes [] ∷ branch absent [] ∷ branch compound (branch attributes [] ∷ branch statements (record { label = at statement_node 0 0; children = forest_of (branch call_statement (branch attributes [] ∷ branch call (branch type_expression (branch absent [] ∷ leaf (ident reference (codes "g")) ∷ branch absent [] ∷ []) ∷ branch list (record { label = at expression_node 0 0; children = forest_of (branch type_or_identifier (branch type_expression (branch absent [] ∷ leaf (ident reference (codes "a")) ∷ branch absent [] ∷ []) ∷ []) ∷ []) } ∷ record { label = at expression_node 0 0; children = forest_of (branch type_or_identifier (branch type_expression (branch absent [] ∷ leaf (ident reference (codes "b")) ∷ branch absent [] ∷ []) ∷ []) ∷ []) } ∷ []) ∷ []) ∷ []) ∷ []) } ∷ record { label = at statement_node 0 0; children = forest_of (branch compound_statement (branch compound (branch attributes [] ∷ branch statements [] ∷ []) ∷ []) ∷ []) } ∷ record { label = at statement_node 0 0; children = forest_of (branch void [] ∷ []) } ∷ []) ∷ []) ∷ []) ∷ []) }), []))
    × (reading 20 a_declaration (name (codes "fn") ∷ name (codes "f") ∷ symbol is.ParenLeft ∷ symbol is.ParenRight ∷ symbol is.BraceLeft ∷ name (codes "if") ∷ name (codes "a") ∷ symbol is.BraceLeft ∷ symbol is.BraceRight ∷ symbol is.At ∷ name (codes "else") ∷ name (codes "else") ∷ name (codes "if") ∷ name (codes "b") ∷ symbol is.BraceLeft ∷ symbol is.BraceRight ∷ name (codes "else") ∷ symbol is.BraceLeft ∷ symbol is.BraceRight ∷ symbol is.BraceRight ∷ []) ≡ Some ((record { label = at declaration_node 0 0; children = forest_of (branch function (branch attributes [] ∷ leaf (ident binder (codes "f")) ∷ branch parameters [] ∷ branch attributes [] ∷ branch absent [] ∷ branch compound (branch attributes [] ∷ branch statements (record { label = at statement_node 0 0; children = forest_of (branch if_statement (branch attributes [] ∷ branch if_clause (record { label = at expression_node 0 0; children = forest_of (branch type_or_identifier (branch type_expression (branch absent [] ∷ leaf (ident reference (codes "a")) ∷ branch absent [] ∷ []) ∷ []) ∷ []) } ∷ branch compound (branch attributes [] ∷ branch statements [] ∷ []) ∷ []) ∷ branch list (branch else_if_clause (branch attributes (record { label = at attribute_node 0 0; children = forest_of (branch else_attribute [] ∷ []) } ∷ []) ∷ record { label = at expression_node 0 0; children = forest_of (branch type_or_identifier (branch type_expression (branch absent [] ∷ leaf (ident reference (codes "b")) ∷ branch absent [] ∷ []) ∷ []) ∷ []) } ∷ branch compound (branch attributes [] ∷ branch statements [] ∷ []) ∷ []) ∷ []) ∷ branch present (branch else_clause (branch attributes [] ∷ branch compound (branch attributes [] ∷ branch statements [] ∷ []) ∷ []) ∷ []) ∷ []) ∷ []) } ∷ []) ∷ []) ∷ []) ∷ []) }), []))
    × (reading 20 a_declaration (name (codes "fn") ∷ name (codes "f") ∷ symbol is.ParenLeft ∷ symbol is.ParenRight ∷ symbol is.BraceLeft ∷ name (codes "switch") ∷ name (codes "x") ∷ symbol is.BraceLeft ∷ name (codes "case") ∷ number (codes "1") ∷ symbol is.Comma ∷ name (codes "default") ∷ symbol is.BraceLeft ∷ symbol is.BraceRight ∷ name (codes "case") ∷ number (codes "2u") ∷ symbol is.BraceLeft ∷ symbol is.BraceRight ∷ symbol is.BraceRight ∷ symbol is.BraceRight ∷ []) ≡ Some ((record { label = at declaration_node 0 0; children = forest_of (branch function (branch attributes [] ∷ leaf (ident binder (codes "f")) ∷ branch parameters [] ∷ branch attributes [] ∷ branch absent [] ∷ branch compound (branch attributes [] ∷ branch statements (record { label = at statement_node 0 0; children = forest_of (branch switch (branch attributes [] ∷ record { label = at expression_node 0 0; children = forest_of (branch type_or_identifier (branch type_expression (branch absent [] ∷ leaf (ident reference (codes "x")) ∷ branch absent [] ∷ []) ∷ []) ∷ []) } ∷ branch attributes [] ∷ branch clauses (branch switch_clause (branch attributes [] ∷ branch list (branch expression_case (record { label = at expression_node 0 0; children = forest_of (branch literal (leaf (text (codes "1")) ∷ []) ∷ []) } ∷ []) ∷ branch default_case [] ∷ []) ∷ branch compound (branch attributes [] ∷ branch statements [] ∷ []) ∷ []) ∷ branch switch_clause (branch attributes [] ∷ branch list (branch expression_case (record { label = at expression_node 0 0; children = forest_of (branch literal (leaf (text (codes "2u")) ∷ []) ∷ []) } ∷ []) ∷ []) ∷ branch compound (branch attributes [] ∷ branch statements [] ∷ []) ∷ []) ∷ []) ∷ []) ∷ []) } ∷ []) ∷ []) ∷ []) ∷ []) }), []))
    × (reading 20 a_declaration (name (codes "fn") ∷ name (codes "f") ∷ symbol is.ParenLeft ∷ symbol is.ParenRight ∷ symbol is.BraceLeft ∷ name (codes "switch") ∷ name (codes "x") ∷ symbol is.BraceLeft ∷ name (codes "default") ∷ symbol is.BraceLeft ∷ name (codes "break") ∷ symbol is.Semicolon ∷ symbol is.BraceRight ∷ symbol is.BraceRight ∷ symbol is.BraceRight ∷ []) ≡ Some ((record { label = at declaration_node 0 0; children = forest_of (branch function (branch attributes [] ∷ leaf (ident binder (codes "f")) ∷ branch parameters [] ∷ branch attributes [] ∷ branch absent [] ∷ branch compound (branch attributes [] ∷ branch statements (record { label = at statement_node 0 0; children = forest_of (branch switch (branch attributes [] ∷ record { label = at expression_node 0 0; children = forest_of (branch type_or_identifier (branch type_expression (branch absent [] ∷ leaf (ident reference (codes "x")) ∷ branch absent [] ∷ []) ∷ []) ∷ []) } ∷ branch attributes [] ∷ branch clauses (branch switch_clause (branch attributes [] ∷ branch list (branch default_case [] ∷ []) ∷ branch compound (branch attributes [] ∷ branch statements (record { label = at statement_node 0 0; children = forest_of (branch break (branch attributes [] ∷ []) ∷ []) } ∷ []) ∷ []) ∷ []) ∷ []) ∷ []) ∷ []) } ∷ []) ∷ []) ∷ []) ∷ []) }), []))
    × (reading 20 a_declaration (name (codes "fn") ∷ name (codes "f") ∷ symbol is.ParenLeft ∷ symbol is.ParenRight ∷ symbol is.BraceLeft ∷ name (codes "loop") ∷ symbol is.BraceLeft ∷ name (codes "x") ∷ symbol is.Equal ∷ number (codes "1") ∷ symbol is.Semicolon ∷ name (codes "continuing") ∷ symbol is.BraceLeft ∷ name (codes "break") ∷ name (codes "if") ∷ name (codes "a") ∷ symbol is.Semicolon ∷ symbol is.BraceRight ∷ symbol is.BraceRight ∷ symbol is.BraceRight ∷ []) ≡ Some ((record { label = at declaration_node 0 0; children = forest_of (branch function (branch attributes [] ∷ leaf (ident binder (codes "f")) ∷ branch parameters [] ∷ branch attributes [] ∷ branch absent [] ∷ branch compound (branch attributes [] ∷ branch statements (record { label = at statement_node 0 0; children = forest_of (branch loop (branch attributes [] ∷ branch compound (branch attributes [] ∷ branch statements (record { label = at statement_node 0 0; children = forest_of (record { label = assignment assignment_operator.Equal; children = forest_of (branch attributes [] ∷ record { label = at expression_node 0 0; children = forest_of (branch type_or_identifier (branch type_expression (branch absent [] ∷ leaf (ident reference (codes "x")) ∷ branch absent [] ∷ []) ∷ []) ∷ []) } ∷ record { label = at expression_node 0 0; children = forest_of (branch literal (leaf (text (codes "1")) ∷ []) ∷ []) } ∷ []) } ∷ []) } ∷ []) ∷ []) ∷ branch present (branch continuing (branch attributes [] ∷ branch compound (branch attributes [] ∷ branch statements [] ∷ []) ∷ branch present (branch break_if (branch attributes [] ∷ record { label = at expression_node 0 0; children = forest_of (branch type_or_identifier (branch type_expression (branch absent [] ∷ leaf (ident reference (codes "a")) ∷ branch absent [] ∷ []) ∷ []) ∷ []) } ∷ []) ∷ []) ∷ []) ∷ []) ∷ []) ∷ []) } ∷ []) ∷ []) ∷ []) ∷ []) }), []))
    × (reading 20 a_declaration (name (codes "fn") ∷ name (codes "f") ∷ symbol is.ParenLeft ∷ symbol is.ParenRight ∷ symbol is.BraceLeft ∷ name (codes "while") ∷ name (codes "true") ∷ symbol is.BraceLeft ∷ symbol is.BraceRight ∷ symbol is.BraceRight ∷ []) ≡ Some ((record { label = at declaration_node 0 0; children = forest_of (branch function (branch attributes [] ∷ leaf (ident binder (codes "f")) ∷ branch parameters [] ∷ branch attributes [] ∷ branch absent [] ∷ branch compound (branch attributes [] ∷ branch statements (record { label = at statement_node 0 0; children = forest_of (branch while_loop (branch attributes [] ∷ record { label = at expression_node 0 0; children = forest_of (branch literal (leaf (truth true) ∷ []) ∷ []) } ∷ branch compound (branch attributes [] ∷ branch statements [] ∷ []) ∷ []) ∷ []) } ∷ []) ∷ []) ∷ []) ∷ []) }), []))
    × (reading 20 a_declaration (name (codes "fn") ∷ name (codes "f") ∷ symbol is.ParenLeft ∷ symbol is.ParenRight ∷ symbol is.BraceLeft ∷ name (codes "for") ∷ symbol is.ParenLeft ∷ symbol is.Semicolon ∷ symbol is.Semicolon ∷ symbol is.ParenRight ∷ symbol is.BraceLeft ∷ name (codes "discard") ∷ symbol is.Semicolon ∷ symbol is.BraceRight ∷ symbol is.BraceRight ∷ []) ≡ Some ((record { label = at declaration_node 0 0; children = forest_of (branch function (branch attributes [] ∷ leaf (ident binder (codes "f")) ∷ branch parameters [] ∷ branch attributes [] ∷ branch absent [] ∷ branch compound (branch attributes [] ∷ branch statements (record { label = at statement_node 0 0; children = forest_of (branch for_loop (branch attributes [] ∷ branch absent [] ∷ branch absent [] ∷ branch absent [] ∷ branch compound (branch attributes [] ∷ branch statements (record { label = at statement_node 0 0; children = forest_of (branch discard (branch attributes [] ∷ []) ∷ []) } ∷ []) ∷ []) ∷ []) ∷ []) } ∷ []) ∷ []) ∷ []) ∷ []) }), []))
    × (reading 20 a_declaration (name (codes "fn") ∷ name (codes "f") ∷ symbol is.ParenLeft ∷ symbol is.ParenRight ∷ symbol is.BraceLeft ∷ name (codes "for") ∷ symbol is.ParenLeft ∷ symbol is.Semicolon ∷ name (codes "a") ∷ symbol is.Semicolon ∷ symbol is.ParenRight ∷ symbol is.BraceLeft ∷ symbol is.BraceRight ∷ symbol is.BraceRight ∷ []) ≡ Some ((record { label = at declaration_node 0 0; children = forest_of (branch function (branch attributes [] ∷ leaf (ident binder (codes "f")) ∷ branch parameters [] ∷ branch attributes [] ∷ branch absent [] ∷ branch compound (branch attributes [] ∷ branch statements (record { label = at statement_node 0 0; children = forest_of (branch for_loop (branch attributes [] ∷ branch absent [] ∷ branch present (record { label = at expression_node 0 0; children = forest_of (branch type_or_identifier (branch type_expression (branch absent [] ∷ leaf (ident reference (codes "a")) ∷ branch absent [] ∷ []) ∷ []) ∷ []) } ∷ []) ∷ branch absent [] ∷ branch compound (branch attributes [] ∷ branch statements [] ∷ []) ∷ []) ∷ []) } ∷ []) ∷ []) ∷ []) ∷ []) }), []))
    × (reading 20 a_declaration (name (codes "fn") ∷ name (codes "f") ∷ symbol is.ParenLeft ∷ symbol is.ParenRight ∷ symbol is.BraceLeft ∷ name (codes "for") ∷ symbol is.ParenLeft ∷ symbol is.Semicolon ∷ symbol is.Semicolon ∷ name (codes "i") ∷ symbol is.PlusPlus ∷ symbol is.ParenRight ∷ symbol is.BraceLeft ∷ symbol is.BraceRight ∷ symbol is.BraceRight ∷ []) ≡ Some ((record { label = at declaration_node 0 0; children = forest_of (branch function (branch attributes [] ∷ leaf (ident binder (codes "f")) ∷ branch parameters [] ∷ branch attributes [] ∷ branch absent [] ∷ branch compound (branch attributes [] ∷ branch statements (record { label = at statement_node 0 0; children = forest_of (branch for_loop (branch attributes [] ∷ branch absent [] ∷ branch absent [] ∷ branch present (record { label = at statement_node 0 0; children = forest_of (branch increment (branch attributes [] ∷ record { label = at expression_node 0 0; children = forest_of (branch type_or_identifier (branch type_expression (branch absent [] ∷ leaf (ident reference (codes "i")) ∷ branch absent [] ∷ []) ∷ []) ∷ []) } ∷ []) ∷ []) } ∷ []) ∷ branch compound (branch attributes [] ∷ branch statements [] ∷ []) ∷ []) ∷ []) } ∷ []) ∷ []) ∷ []) ∷ []) }), []))
    × (reading 20 a_declaration (name (codes "fn") ∷ name (codes "f") ∷ symbol is.ParenLeft ∷ symbol is.ParenRight ∷ symbol is.BraceLeft ∷ name (codes "for") ∷ symbol is.ParenLeft ∷ name (codes "var") ∷ name (codes "i") ∷ symbol is.Equal ∷ number (codes "0") ∷ symbol is.Semicolon ∷ name (codes "i") ∷ symbol is.Less ∷ name (codes "n") ∷ symbol is.Semicolon ∷ name (codes "i") ∷ symbol is.PlusPlus ∷ symbol is.ParenRight ∷ symbol is.BraceLeft ∷ name (codes "continue") ∷ symbol is.Semicolon ∷ symbol is.BraceRight ∷ symbol is.BraceRight ∷ []) ≡ Some ((record { label = at declaration_node 0 0; children = forest_of (branch function (branch attributes [] ∷ leaf (ident binder (codes "f")) ∷ branch parameters [] ∷ branch attributes [] ∷ branch absent [] ∷ branch compound (branch attributes [] ∷ branch statements (record { label = at statement_node 0 0; children = forest_of (branch for_loop (branch attributes [] ∷ branch present (record { label = at statement_node 0 0; children = forest_of (branch declaration (branch attributes [] ∷ branch var_kind (branch absent [] ∷ []) ∷ leaf (ident binder (codes "i")) ∷ branch absent [] ∷ branch present (record { label = at expression_node 0 0; children = forest_of (branch literal (leaf (text (codes "0")) ∷ []) ∷ []) } ∷ []) ∷ []) ∷ []) } ∷ []) ∷ branch present (record { label = at expression_node 0 0; children = forest_of (record { label = binary binary_operator.LessThan; children = forest_of (record { label = at expression_node 0 0; children = forest_of (branch type_or_identifier (branch type_expression (branch absent [] ∷ leaf (ident reference (codes "i")) ∷ branch absent [] ∷ []) ∷ []) ∷ []) } ∷ record { label = at expression_node 0 0; children = forest_of (branch type_or_identifier (branch type_expression (branch absent [] ∷ leaf (ident reference (codes "n")) ∷ branch absent [] ∷ []) ∷ []) ∷ []) } ∷ []) } ∷ []) } ∷ []) ∷ branch present (record { label = at statement_node 0 0; children = forest_of (branch increment (branch attributes [] ∷ record { label = at expression_node 0 0; children = forest_of (branch type_or_identifier (branch type_expression (branch absent [] ∷ leaf (ident reference (codes "i")) ∷ branch absent [] ∷ []) ∷ []) ∷ []) } ∷ []) ∷ []) } ∷ []) ∷ branch compound (branch attributes [] ∷ branch statements (record { label = at statement_node 0 0; children = forest_of (branch continue (branch attributes [] ∷ []) ∷ []) } ∷ []) ∷ []) ∷ []) ∷ []) } ∷ []) ∷ []) ∷ []) ∷ []) }), []))
    × (reading 20 a_declaration (name (codes "const") ∷ name (codes "a") ∷ symbol is.Equal ∷ name (codes "b") ∷ symbol is.Star ∷ name (codes "c") ∷ symbol is.Plus ∷ name (codes "d") ∷ symbol is.Star ∷ name (codes "e") ∷ symbol is.Semicolon ∷ []) ≡ Some ((record { label = at declaration_node 0 0; children = forest_of (branch declaration (branch attributes [] ∷ branch const_kind [] ∷ leaf (ident binder (codes "a")) ∷ branch absent [] ∷ branch present (record { label = at expression_node 0 0; children = forest_of (record { label = binary binary_operator.Addition; children = forest_of (record { label = at expression_node 0 0; children = forest_of (record { label = binary binary_operator.Multiplication; children = forest_of (record { label = at expression_node 0 0; children = forest_of (branch type_or_identifier (branch type_expression (branch absent [] ∷ leaf (ident reference (codes "b")) ∷ branch absent [] ∷ []) ∷ []) ∷ []) } ∷ record { label = at expression_node 0 0; children = forest_of (branch type_or_identifier (branch type_expression (branch absent [] ∷ leaf (ident reference (codes "c")) ∷ branch absent [] ∷ []) ∷ []) ∷ []) } ∷ []) } ∷ []) } ∷ record { label = at expression_node 0 0; children = forest_of (record { label = binary binary_operator.Multiplication; children = forest_of (record { label = at expression_node 0 0; children = forest_of (branch type_or_identifier (branch type_expression (branch absent [] ∷ leaf (ident reference (codes "d")) ∷ branch absent [] ∷ []) ∷ []) ∷ []) } ∷ record { label = at expression_node 0 0; children = forest_of (branch type_or_identifier (branch type_expression (branch absent [] ∷ leaf (ident reference (codes "e")) ∷ branch absent [] ∷ []) ∷ []) ∷ []) } ∷ []) } ∷ []) } ∷ []) } ∷ []) } ∷ []) ∷ []) ∷ []) }), []))
    × (reading 20 a_declaration (name (codes "const") ∷ name (codes "a") ∷ symbol is.Equal ∷ symbol is.ParenLeft ∷ name (codes "a") ∷ symbol is.And ∷ name (codes "b") ∷ symbol is.ParenRight ∷ symbol is.EqualEqual ∷ name (codes "c") ∷ symbol is.AndAnd ∷ name (codes "d") ∷ symbol is.Less ∷ name (codes "e") ∷ symbol is.AndAnd ∷ name (codes "f") ∷ symbol is.Semicolon ∷ []) ≡ Some ((record { label = at declaration_node 0 0; children = forest_of (branch declaration (branch attributes [] ∷ branch const_kind [] ∷ leaf (ident binder (codes "a")) ∷ branch absent [] ∷ branch present (record { label = at expression_node 0 0; children = forest_of (record { label = binary binary_operator.ShortCircuitAnd; children = forest_of (record { label = at expression_node 0 0; children = forest_of (record { label = binary binary_operator.ShortCircuitAnd; children = forest_of (record { label = at expression_node 0 0; children = forest_of (record { label = binary binary_operator.Equality; children = forest_of (record { label = at expression_node 0 0; children = forest_of (branch parenthesized (record { label = at expression_node 0 0; children = forest_of (record { label = binary binary_operator.BitwiseAnd; children = forest_of (record { label = at expression_node 0 0; children = forest_of (branch type_or_identifier (branch type_expression (branch absent [] ∷ leaf (ident reference (codes "a")) ∷ branch absent [] ∷ []) ∷ []) ∷ []) } ∷ record { label = at expression_node 0 0; children = forest_of (branch type_or_identifier (branch type_expression (branch absent [] ∷ leaf (ident reference (codes "b")) ∷ branch absent [] ∷ []) ∷ []) ∷ []) } ∷ []) } ∷ []) } ∷ []) ∷ []) } ∷ record { label = at expression_node 0 0; children = forest_of (branch type_or_identifier (branch type_expression (branch absent [] ∷ leaf (ident reference (codes "c")) ∷ branch absent [] ∷ []) ∷ []) ∷ []) } ∷ []) } ∷ []) } ∷ record { label = at expression_node 0 0; children = forest_of (record { label = binary binary_operator.LessThan; children = forest_of (record { label = at expression_node 0 0; children = forest_of (branch type_or_identifier (branch type_expression (branch absent [] ∷ leaf (ident reference (codes "d")) ∷ branch absent [] ∷ []) ∷ []) ∷ []) } ∷ record { label = at expression_node 0 0; children = forest_of (branch type_or_identifier (branch type_expression (branch absent [] ∷ leaf (ident reference (codes "e")) ∷ branch absent [] ∷ []) ∷ []) ∷ []) } ∷ []) } ∷ []) } ∷ []) } ∷ []) } ∷ record { label = at expression_node 0 0; children = forest_of (branch type_or_identifier (branch type_expression (branch absent [] ∷ leaf (ident reference (codes "f")) ∷ branch absent [] ∷ []) ∷ []) ∷ []) } ∷ []) } ∷ []) } ∷ []) ∷ []) ∷ []) }), []))
    × (reading 20 a_declaration (name (codes "const") ∷ name (codes "a") ∷ symbol is.Equal ∷ name (codes "f") ∷ symbol is.ParenLeft ∷ name (codes "x") ∷ symbol is.Less ∷ name (codes "y") ∷ symbol is.Comma ∷ symbol is.ParenLeft ∷ name (codes "c") ∷ symbol is.Greater ∷ name (codes "d") ∷ symbol is.ParenRight ∷ symbol is.ParenRight ∷ symbol is.Semicolon ∷ []) ≡ Some ((record { label = at declaration_node 0 0; children = forest_of (branch declaration (branch attributes [] ∷ branch const_kind [] ∷ leaf (ident binder (codes "a")) ∷ branch absent [] ∷ branch present (record { label = at expression_node 0 0; children = forest_of (branch call_expression (branch call (branch type_expression (branch absent [] ∷ leaf (ident reference (codes "f")) ∷ branch absent [] ∷ []) ∷ branch list (record { label = at expression_node 0 0; children = forest_of (record { label = binary binary_operator.LessThan; children = forest_of (record { label = at expression_node 0 0; children = forest_of (branch type_or_identifier (branch type_expression (branch absent [] ∷ leaf (ident reference (codes "x")) ∷ branch absent [] ∷ []) ∷ []) ∷ []) } ∷ record { label = at expression_node 0 0; children = forest_of (branch type_or_identifier (branch type_expression (branch absent [] ∷ leaf (ident reference (codes "y")) ∷ branch absent [] ∷ []) ∷ []) ∷ []) } ∷ []) } ∷ []) } ∷ record { label = at expression_node 0 0; children = forest_of (branch parenthesized (record { label = at expression_node 0 0; children = forest_of (record { label = binary binary_operator.GreaterThan; children = forest_of (record { label = at expression_node 0 0; children = forest_of (branch type_or_identifier (branch type_expression (branch absent [] ∷ leaf (ident reference (codes "c")) ∷ branch absent [] ∷ []) ∷ []) ∷ []) } ∷ record { label = at expression_node 0 0; children = forest_of (branch type_or_identifier (branch type_expression (branch absent [] ∷ leaf (ident reference (codes "d")) ∷ branch absent [] ∷ []) ∷ []) ∷ []) } ∷ []) } ∷ []) } ∷ []) ∷ []) } ∷ []) ∷ []) ∷ []) ∷ []) } ∷ []) ∷ []) ∷ []) }), []))
    × (reading 20 a_declaration (symbol is.At ∷ name (codes "workgroup_size") ∷ symbol is.ParenLeft ∷ number (codes "8") ∷ symbol is.Comma ∷ number (codes "4") ∷ symbol is.ParenRight ∷ symbol is.At ∷ name (codes "compute") ∷ name (codes "fn") ∷ name (codes "m") ∷ symbol is.ParenLeft ∷ symbol is.ParenRight ∷ symbol is.BraceLeft ∷ symbol is.BraceRight ∷ []) ≡ Some ((record { label = at declaration_node 0 0; children = forest_of (branch function (branch attributes (record { label = at attribute_node 0 0; children = forest_of (branch workgroup_size (record { label = at expression_node 0 0; children = forest_of (branch literal (leaf (text (codes "8")) ∷ []) ∷ []) } ∷ branch present (record { label = at expression_node 0 0; children = forest_of (branch literal (leaf (text (codes "4")) ∷ []) ∷ []) } ∷ []) ∷ branch absent [] ∷ []) ∷ []) } ∷ record { label = at attribute_node 0 0; children = forest_of (branch compute [] ∷ []) } ∷ []) ∷ leaf (ident binder (codes "m")) ∷ branch parameters [] ∷ branch attributes [] ∷ branch absent [] ∷ branch compound (branch attributes [] ∷ branch statements [] ∷ []) ∷ []) ∷ []) }), []))
    × (reading 20 a_declaration (symbol is.At ∷ name (codes "interpolate") ∷ symbol is.ParenLeft ∷ name (codes "flat") ∷ symbol is.Comma ∷ name (codes "either") ∷ symbol is.ParenRight ∷ symbol is.At ∷ name (codes "foo") ∷ symbol is.ParenLeft ∷ number (codes "1") ∷ symbol is.Comma ∷ number (codes "2") ∷ symbol is.ParenRight ∷ symbol is.At ∷ name (codes "bar") ∷ name (codes "const") ∷ name (codes "a") ∷ symbol is.Equal ∷ symbol is.Bang ∷ symbol is.ParenLeft ∷ symbol is.Minus ∷ name (codes "b") ∷ symbol is.ParenRight ∷ symbol is.Semicolon ∷ []) ≡ Some ((record { label = at declaration_node 0 0; children = forest_of (branch declaration (branch attributes (record { label = at attribute_node 0 0; children = forest_of (branch interpolate (leaf (texts (codes "flat" ∷ codes "either" ∷ [])) ∷ []) ∷ []) } ∷ record { label = at attribute_node 0 0; children = forest_of (branch custom (leaf (text (codes "foo")) ∷ branch present (branch list (record { label = at expression_node 0 0; children = forest_of (branch literal (leaf (text (codes "1")) ∷ []) ∷ []) } ∷ record { label = at expression_node 0 0; children = forest_of (branch literal (leaf (text (codes "2")) ∷ []) ∷ []) } ∷ []) ∷ []) ∷ []) ∷ []) } ∷ record { label = at attribute_node 0 0; children = forest_of (branch custom (leaf (text (codes "bar")) ∷ branch absent [] ∷ []) ∷ []) } ∷ []) ∷ branch const_kind [] ∷ leaf (ident binder (codes "a")) ∷ branch absent [] ∷ branch present (record { label = at expression_node 0 0; children = forest_of (record { label = unary unary_operator.LogicalNegation; children = forest_of (record { label = at expression_node 0 0; children = forest_of (branch parenthesized (record { label = at expression_node 0 0; children = forest_of (record { label = unary unary_operator.Negation; children = forest_of (record { label = at expression_node 0 0; children = forest_of (branch type_or_identifier (branch type_expression (branch absent [] ∷ leaf (ident reference (codes "b")) ∷ branch absent [] ∷ []) ∷ []) ∷ []) } ∷ []) } ∷ []) } ∷ []) ∷ []) } ∷ []) } ∷ []) } ∷ []) ∷ []) ∷ []) }), []))
    × (reading 20 a_declaration (name (codes "const") ∷ name (codes "a") ∷ symbol is.Equal ∷ number (codes "1.5") ∷ symbol is.Period ∷ name (codes "x") ∷ symbol is.Semicolon ∷ []) ≡ Some ((record { label = at declaration_node 0 0; children = forest_of (branch declaration (branch attributes [] ∷ branch const_kind [] ∷ leaf (ident binder (codes "a")) ∷ branch absent [] ∷ branch present (record { label = at expression_node 0 0; children = forest_of (branch named_component (record { label = at expression_node 0 0; children = forest_of (branch literal (leaf (text (codes "1.5")) ∷ []) ∷ []) } ∷ leaf (text (codes "x")) ∷ []) ∷ []) } ∷ []) ∷ []) ∷ []) }), []))
    × (reading 20 a_declaration (name (codes "const") ∷ name (codes "a") ∷ symbol is.Equal ∷ symbol is.And ∷ name (codes "p") ∷ symbol is.BracketLeft ∷ number (codes "1") ∷ symbol is.BracketRight ∷ symbol is.Minus ∷ symbol is.Minus ∷ name (codes "c") ∷ symbol is.Semicolon ∷ []) ≡ Some ((record { label = at declaration_node 0 0; children = forest_of (branch declaration (branch attributes [] ∷ branch const_kind [] ∷ leaf (ident binder (codes "a")) ∷ branch absent [] ∷ branch present (record { label = at expression_node 0 0; children = forest_of (record { label = binary binary_operator.Subtraction; children = forest_of (record { label = at expression_node 0 0; children = forest_of (record { label = unary unary_operator.AddressOf; children = forest_of (record { label = at expression_node 0 0; children = forest_of (branch indexing (record { label = at expression_node 0 0; children = forest_of (branch type_or_identifier (branch type_expression (branch absent [] ∷ leaf (ident reference (codes "p")) ∷ branch absent [] ∷ []) ∷ []) ∷ []) } ∷ record { label = at expression_node 0 0; children = forest_of (branch literal (leaf (text (codes "1")) ∷ []) ∷ []) } ∷ []) ∷ []) } ∷ []) } ∷ []) } ∷ record { label = at expression_node 0 0; children = forest_of (record { label = unary unary_operator.Negation; children = forest_of (record { label = at expression_node 0 0; children = forest_of (branch type_or_identifier (branch type_expression (branch absent [] ∷ leaf (ident reference (codes "c")) ∷ branch absent [] ∷ []) ∷ []) ∷ []) } ∷ []) } ∷ []) } ∷ []) } ∷ []) } ∷ []) ∷ []) ∷ []) }), []))
