-- What the first tokens tell: whether a node begins, and which one.
use Rattle.std.specs.Prelude.{Bool, true, false, not, ◌&&◌, ◌||◌, if◌then◌else◌, is_some, List, [], ◌∷◌, Option, Some, None, codes, bytes_eq}
use Rattle.wesl_tree_names.specs.Path.{Text}
use Rattle.wesl_tree_syntax.specs.Tree.{Kind, kind, assignment, literal, parenthesized, type_or_identifier, align, binding, blend_src, builtin, const_attribute, diagnostic, group, id, interpolate, invariant_attribute, location, must_use, size, workgroup_size, vertex, fragment, compute, publish, if_attribute, elif_attribute, else_attribute, custom, void, compound_statement, increment, decrement, if_statement, switch, loop, for_loop, while_loop, break, continue, return, discard, call_expression, call_statement, const_assert, diagnostic_directive, enable_directive, requires_directive, type_alias, struct, function, declaration, const_kind, override_kind, let_kind, var_kind}
use Rattle.wesl_tree_syntax.specs.declared.expression.UnaryOperator.{UnaryOperator}
use Rattle.wesl_tree_syntax.specs.declared.expression.UnaryOperator.TheVariants as unary_operator
use Rattle.wesl_tree_syntax.specs.declared.expression.BinaryOperator.{BinaryOperator}
use Rattle.wesl_tree_syntax.specs.declared.expression.BinaryOperator.TheVariants as binary_operator
use Rattle.wesl_tree_syntax.specs.declared.statement.AssignmentOperator.{AssignmentOperator}
use Rattle.wesl_tree_syntax.specs.declared.statement.AssignmentOperator.TheVariants as assignment_operator
use Rattle.wesl_tree_syntax.specs.declared.declaration.AddressSpace.{AddressSpace}
use Rattle.wesl_tree_syntax.specs.declared.declaration.AddressSpace.TheVariants as address_space
use Rattle.wesl_tree_syntax.specs.declared.declaration.AccessMode.{AccessMode}
use Rattle.wesl_tree_syntax.specs.declared.declaration.AccessMode.TheVariants as access_mode
use Rattle.wesl_text_tokens.specs.declared.symbol.Symbol.{Symbol}
use Rattle.wesl_text_tokens.specs.declared.symbol.Symbol.TheVariants as is
use Rattle.wesl_text_tokens.specs.Symbols.{look_up}
use Rattle.wesl_text_tokens.specs.Tokens.{Token, name, number, symbol, close_list}
use Rattle.wesl_text_form.specs.Slots.{comes_first}
use Rattle.wesl_text_form.specs.Productions.{Sort, a_type, an_attribute, a_body, an_else_if, an_else, a_clause, a_continuing, a_break_if, an_entry, an_import, a_bare_import, a_directive, a_bare_directive, a_member, a_bare_member, a_parameter, a_statement, a_bare_statement, a_declaration, a_bare_declaration}
use Rattle.wesl_text_form.specs.Spelling.{Label}

-- ---- tokens

-- all but the first token
abbrev pub behind_first : List Token → List Token
behind_first [] = []
behind_first (t ∷ ts) = ts

-- whether this word, or this symbol, comes first:
abbrev pub begins_word : Text → List Token → Bool
begins_word w ts = comes_first (name w) ts

abbrev pub begins_sign : Symbol → List Token → Bool
begins_sign s ts = comes_first (symbol s) ts

-- whether some word comes first
abbrev pub begins_name : List Token → Bool
begins_name (name t ∷ ts) = true
begins_name _ = false

-- whether nothing is left
abbrev pub are_none : List Token → Bool
are_none [] = true
are_none _ = false

-- ---- operators

-- the operators that symbols are:
abbrev pub binary_of : Symbol → Option BinaryOperator
binary_of is.OrOr = Some binary_operator.ShortCircuitOr
binary_of is.AndAnd = Some binary_operator.ShortCircuitAnd
binary_of is.Plus = Some binary_operator.Addition
binary_of is.Minus = Some binary_operator.Subtraction
binary_of is.Star = Some binary_operator.Multiplication
binary_of is.Slash = Some binary_operator.Division
binary_of is.Percent = Some binary_operator.Remainder
binary_of is.EqualEqual = Some binary_operator.Equality
binary_of is.NotEqual = Some binary_operator.Inequality
binary_of is.Less = Some binary_operator.LessThan
binary_of is.LessEqual = Some binary_operator.LessThanEqual
binary_of is.Greater = Some binary_operator.GreaterThan
binary_of is.GreaterEqual = Some binary_operator.GreaterThanEqual
binary_of is.Or = Some binary_operator.BitwiseOr
binary_of is.And = Some binary_operator.BitwiseAnd
binary_of is.Xor = Some binary_operator.BitwiseXor
binary_of is.ShiftLeft = Some binary_operator.ShiftLeft
binary_of is.ShiftRight = Some binary_operator.ShiftRight
binary_of _ = None

abbrev pub unary_of : Symbol → Option UnaryOperator
unary_of is.Bang = Some unary_operator.LogicalNegation
unary_of is.Minus = Some unary_operator.Negation
unary_of is.Tilde = Some unary_operator.BitwiseComplement
unary_of is.And = Some unary_operator.AddressOf
unary_of is.Star = Some unary_operator.Indirection
unary_of _ = None

abbrev pub assignment_of : Symbol → Option AssignmentOperator
assignment_of is.Equal = Some assignment_operator.Equal
assignment_of is.PlusEqual = Some assignment_operator.PlusEqual
assignment_of is.MinusEqual = Some assignment_operator.MinusEqual
assignment_of is.StarEqual = Some assignment_operator.TimesEqual
assignment_of is.SlashEqual = Some assignment_operator.DivisionEqual
assignment_of is.PercentEqual = Some assignment_operator.ModuloEqual
assignment_of is.AndEqual = Some assignment_operator.AndEqual
assignment_of is.OrEqual = Some assignment_operator.OrEqual
assignment_of is.XorEqual = Some assignment_operator.XorEqual
assignment_of is.ShiftLeftEqual = Some assignment_operator.ShiftLeftAssign
assignment_of is.ShiftRightEqual = Some assignment_operator.ShiftRightAssign
assignment_of _ = None

-- the operator that comes first:
abbrev pub binary_first : List Token → Option BinaryOperator
binary_first (symbol s ∷ ts) = binary_of s
binary_first _ = None

abbrev pub unary_first : List Token → Option UnaryOperator
unary_first (symbol s ∷ ts) = unary_of s
unary_first _ = None

-- whether an expression begins: a word, a number, `(` or a unary operator
abbrev pub begins_expression : List Token → Bool
begins_expression (name t ∷ ts) = true
begins_expression (number t ∷ ts) = true
begins_expression ts = begins_sign is.ParenLeft ts || is_some (unary_first ts)

-- ---- which node a word begins

abbrev pub words_of_attributes : List (Text × Kind)
words_of_attributes =
    (codes "align", align) ∷ (codes "binding", binding) ∷ (codes "blend_src", blend_src) ∷ (codes "builtin", builtin)
    ∷ (codes "compute", compute) ∷ (codes "const", const_attribute) ∷ (codes "diagnostic", diagnostic)
    ∷ (codes "elif", elif_attribute) ∷ (codes "else", else_attribute) ∷ (codes "fragment", fragment)
    ∷ (codes "group", group) ∷ (codes "id", id) ∷ (codes "if", if_attribute) ∷ (codes "interpolate", interpolate)
    ∷ (codes "invariant", invariant_attribute) ∷ (codes "location", location) ∷ (codes "must_use", must_use)
    ∷ (codes "publish", publish) ∷ (codes "size", size) ∷ (codes "vertex", vertex)
    ∷ (codes "workgroup_size", workgroup_size) ∷ []

abbrev pub words_of_statements : List (Text × Kind)
words_of_statements =
    (codes "break", break) ∷ (codes "const", declaration) ∷ (codes "const_assert", const_assert)
    ∷ (codes "continue", continue) ∷ (codes "discard", discard) ∷ (codes "for", for_loop) ∷ (codes "if", if_statement)
    ∷ (codes "let", declaration) ∷ (codes "loop", loop) ∷ (codes "return", return) ∷ (codes "switch", switch)
    ∷ (codes "var", declaration) ∷ (codes "while", while_loop) ∷ []

abbrev pub words_of_declarations : List (Text × Kind)
words_of_declarations =
    (codes "alias", type_alias) ∷ (codes "const", declaration) ∷ (codes "const_assert", const_assert)
    ∷ (codes "fn", function) ∷ (codes "override", declaration) ∷ (codes "struct", struct) ∷ (codes "var", declaration) ∷ []

abbrev pub words_of_directives : List (Text × Kind)
words_of_directives =
    (codes "diagnostic", diagnostic_directive) ∷ (codes "enable", enable_directive) ∷ (codes "requires", requires_directive) ∷ []

abbrev pub words_of_kinds : List (Text × Kind)
words_of_kinds =
    (codes "const", const_kind) ∷ (codes "let", let_kind) ∷ (codes "override", override_kind) ∷ (codes "var", var_kind) ∷ []

abbrev pub words_of_spaces : List (Text × AddressSpace)
words_of_spaces =
    (codes "function", address_space.Function) ∷ (codes "handle", address_space.Handle)
    ∷ (codes "private", address_space.Private) ∷ (codes "storage", address_space.Storage)
    ∷ (codes "uniform", address_space.Uniform) ∷ (codes "workgroup", address_space.Workgroup) ∷ []

abbrev pub words_of_accesses : List (Text × AccessMode)
words_of_accesses =
    (codes "read", access_mode.Read) ∷ (codes "read_write", access_mode.ReadWrite) ∷ (codes "write", access_mode.Write) ∷ []

-- what the first word stands for in a list
abbrev pub by_word : {A : Type 0} → List (Text × A) → List Token → Option A
by_word ps (name t ∷ ts) = look_up t ps
by_word ps _ = None

-- a label made of what was found
abbrev pub labelled : {A : Type 0} → (A → Label) → Option A → Option Label
labelled f None = None
labelled f (Some x) = Some (f x)

-- the kind that was found, or else this one
abbrev pub or_kind : Kind → Option Kind → Option Label
or_kind k None = Some (kind k)
or_kind k (Some j) = Some (kind j)

-- the label of an attribute, by the word behind `@`
abbrev pub attribute_label : List Token → Option Label
attribute_label (symbol is.At ∷ ts) = or_kind custom (by_word words_of_attributes ts)
attribute_label _ = None

-- the label of a statement by what stands behind its first expression
abbrev pub label_behind_expression : List Token → Option Label
label_behind_expression (symbol is.PlusPlus ∷ ts) = Some (kind increment)
label_behind_expression (symbol is.MinusMinus ∷ ts) = Some (kind decrement)
label_behind_expression (symbol s ∷ ts) = elim (assignment_of s) as (λ _. Option Label) [ None ↦ Some (kind call_statement) | Some o ↦ Some (assignment o) ]
label_behind_expression _ = Some (kind call_statement)

-- the label of a statement by its first token behind attributes; none where that is an expression's
abbrev pub statement_label : List Token → Option Label
statement_label (symbol is.Semicolon ∷ ts) = Some (kind void)
statement_label (symbol is.BraceLeft ∷ ts) = Some (kind compound_statement)
statement_label ts =
    if begins_word (codes "_") ts then Some (assignment assignment_operator.Equal)
    else labelled kind (by_word words_of_statements ts)

-- the label of a declaration by its first token behind attributes
abbrev pub declaration_label : List Token → Option Label
declaration_label (symbol is.Semicolon ∷ ts) = Some (kind void)
declaration_label ts = labelled kind (by_word words_of_declarations ts)

-- the label of an expression's operand that is no operation, by its first token and what stands behind the type that begins there
abbrev pub operand_label : List Token → List Token → Option Label
operand_label (number t ∷ ts) us = Some (kind literal)
operand_label (name t ∷ ts) us =
    if bytes_eq t (codes "true") || bytes_eq t (codes "false") then Some (kind literal)
    else if begins_sign is.ParenLeft us then Some (kind call_expression)
    else Some (kind type_or_identifier)
operand_label ts us = if begins_sign is.ParenLeft ts then Some (kind parenthesized) else None

-- ---- whether a node begins

-- whether attributes may stand before a node of this sort, which tell nothing of it
abbrev pub has_attributes : Sort → Bool
has_attributes a_body = true
has_attributes an_else_if = true
has_attributes an_else = true
has_attributes a_clause = true
has_attributes a_continuing = true
has_attributes a_break_if = true
has_attributes an_import = true
has_attributes a_bare_import = true
has_attributes a_directive = true
has_attributes a_bare_directive = true
has_attributes a_member = true
has_attributes a_bare_member = true
has_attributes a_parameter = true
has_attributes a_statement = true
has_attributes a_bare_statement = true
has_attributes a_declaration = true
has_attributes a_bare_declaration = true
has_attributes _ = false

-- whether a word comes first, and then another
abbrev pub begins_words : Text → Text → List Token → Bool
begins_words w v ts = begins_word w ts && begins_word v (behind_first ts)

-- whether the statements of a block end: at `}`, at `continuing` and at `break if`
abbrev pub ends_block : List Token → Bool
ends_block ts = are_none ts || begins_sign is.BraceRight ts || begins_word (codes "continuing") ts || begins_words (codes "break") (codes "if") ts

-- whether a node of this sort begins, by the tokens behind its attributes
abbrev pub begins_sort : Sort → List Token → Bool
begins_sort an_attribute ts = begins_sign is.At ts
begins_sort an_else_if ts = begins_words (codes "else") (codes "if") ts
begins_sort an_else ts = begins_word (codes "else") ts
begins_sort a_clause ts = begins_word (codes "case") ts || begins_word (codes "default") ts
begins_sort a_continuing ts = begins_word (codes "continuing") ts
begins_sort a_break_if ts = begins_words (codes "break") (codes "if") ts
begins_sort an_import ts = begins_word (codes "import") ts
begins_sort a_directive ts = is_some (by_word words_of_directives ts)
begins_sort a_declaration ts = not (are_none ts)
begins_sort a_statement ts = not (ends_block ts)
begins_sort a_type ts = begins_name ts
begins_sort a_member ts = begins_name ts
begins_sort a_parameter ts = begins_name ts
begins_sort an_entry ts = begins_name ts || begins_sign is.BraceLeft ts
begins_sort s ts = begins_expression ts

-- whether a path begins: a word, and behind it `::`, or `/` where slashes may stand
abbrev pub begins_path : Bool → List Token → Bool
begins_path slashes ts = begins_name ts && (begins_sign is.ColonColon (behind_first ts) || (slashes && begins_sign is.Slash (behind_first ts)))

-- whether a list goes on behind a comma that comes first: no bracket closes it
abbrev pub goes_on_behind : List Token → Bool
goes_on_behind ts = not (are_none ts || begins_sign is.ParenRight ts || comes_first close_list ts)

-- whether a part of a text begins that need not be there: `;` and `)` end a part of `for`
abbrev pub begins_part : List Token → Bool
begins_part ts = not (begins_sign is.Semicolon ts || begins_sign is.ParenRight ts)
