-- The reading of tokens by the grammar: by descent, one token ahead, or what stands behind attributes, a type or an expression.
use Rattle.std.specs.Prelude.{ℕ, zero, suc, Bool, true, false, not, ◌&&◌, ◌||◌, ◌==◌, if◌then◌else◌, nat_le, List, [], ◌∷◌, length, Option, Some, None, option_and_then, codes}
use Rattle.wesl_tree_names.specs.Path.{Text}
use Rattle.wesl_tree_syntax.specs.Tree.{kind, at, reference, ident, unary, binary, space, access, end, tree, TreeOf, before, leaf as tree_leaf, branch, expression_node, statement_node, attribute_node, member_node, import_node, directive_node, declaration_node, named_component, indexing, call, type_or_identifier, type_expression, template_argument, list, present, absent, compound, if_clause, else_if_clause, else_clause, switch_clause, default_case, expression_case, continuing, break_if, import_statement, import_item, import_collection, import_entry, member, parameter}
use Rattle.wesl_tree_syntax.specs.Unit.{UnitOf}
use Rattle.wesl_text_tokens.specs.declared.symbol.Symbol.TheVariants as is
use Rattle.wesl_text_tokens.specs.Tokens.{Token, name, symbol, open_list, close_list}
use Rattle.wesl_tree_syntax.specs.declared.expression.BinaryOperator.{BinaryOperator}
use Rattle.wesl_text_form.specs.Slots.{behind_token, behind_if_there, comes_first}
use Rattle.wesl_text_form.specs.Says.{levels}
use Rattle.wesl_text_form.specs.Operators.{Class, class_of, operator_class, is_tight, takes_left, takes_right}
use Rattle.wesl_text_form.specs.Productions.{Sort, an_expression, a_bare_expression, a_call, a_type, an_argument, an_attribute, a_bare_attribute, a_body, an_if, an_else_if, an_else, a_clause, a_selector, a_continuing, a_break_if, a_kind, a_space, an_access, a_content, an_entry, an_import, a_bare_import, a_directive, a_bare_directive, a_member, a_bare_member, a_parameter, a_statement, a_bare_statement, a_declaration, a_bare_declaration, a_name, a_path, Row, nothing, sym, may_sym, says, opens, closes, own, leaf, run, commas, optional, inside, target, selectors, unended, arrow, row_of}
use Rattle.wesl_text_form.specs.Spelling.{Label, Forest, label_at, is_absent_at, is_simple, fits, stands_as, leads_to_place, unit_row}
use Rattle.wesl_text_reading.specs.Leaves.{Read, after, where_so, read_leaf}
use Rattle.wesl_text_reading.specs.FirstTokens.{behind_first, begins_word, begins_sign, binary_first, unary_first, by_word, labelled, words_of_kinds, words_of_spaces, words_of_accesses, words_of_directives, attribute_label, label_behind_expression, statement_label, declaration_label, operand_label, has_attributes, begins_sort, begins_path, goes_on_behind, begins_part}

-- reads one tree
abbrev pub Reader : Type 0
Reader = List Token → Read (TreeOf Text)

-- reads trees side by side
abbrev pub ForestReader : Type 0
ForestReader = List Token → Read Forest

-- a tree of this label
abbrev pub node_of : Label → Forest → TreeOf Text
node_of l children = record { label = l; children = children }

-- a tree before others that are read
abbrev pub and_others : TreeOf Text → Read Forest → Read Forest
and_others t r = after r (λ f us. Some (before t f, us))

-- ---- trees behind one another

module _ (begins : List Token → Bool) (one : Reader) where
  -- as many as begin, and no more than so many
  abbrev pub all_of : ℕ → ForestReader
  all_of zero ts = if begins ts then None else Some (end, ts)
  all_of (suc n) ts = elim (begins ts) as (λ _. Read Forest) [ false ↦ Some (end, ts) | true ↦ after (one ts) (λ t us. and_others t (all_of n us)) ]

  -- the same with commas between, and perhaps one behind
  abbrev pub separate_of : ℕ → ForestReader
  separate_of zero ts = if begins ts then None else Some (end, ts)
  separate_of (suc n) ts = elim (begins ts) as (λ _. Read Forest) [
    | false ↦ Some (end, ts)
    | true ↦ after (one ts) (λ t us. and_others t (elim (begins_sign is.Comma us) as (λ _. Read Forest) [ false ↦ Some (end, us) | true ↦ separate_of n (behind_first us) ]))
  ]

-- ---- nodes by their rows, where `child` reads the children of each sort

module _ (child : Sort → Reader) where
  -- the attributes that come first
  abbrev pub attributes_first : ForestReader
  attributes_first ts = all_of (begins_sign is.At) (child an_attribute) (length ts) ts

  -- what stands behind them; nothing where they are none
  abbrev pub behind_attributes : List Token → List Token
  behind_attributes ts = elim (attributes_first ts) as (λ _. List Token) [ None ↦ [] | Some x ↦ x.1 ]

  -- what stands behind a tree of a sort; nothing where there is none
  abbrev pub behind_child : Sort → List Token → List Token
  behind_child s ts = elim (child s ts) as (λ _. List Token) [ None ↦ [] | Some x ↦ x.1 ]

  -- whether a node of this sort begins
  abbrev pub begins_child : Sort → List Token → Bool
  begins_child s ts = if has_attributes s then begins_sort s (behind_attributes ts) else begins_sort s ts

  -- whether the parts of a row begin, where they need not stand
  abbrev pub begins_row : Row → List Token → Bool
  begins_row (sym is.Comma row) ts = begins_sign is.Comma ts && goes_on_behind (behind_first ts)
  begins_row (sym s row) ts = begins_sign s ts
  begins_row (says w row) ts = begins_word w ts
  begins_row (opens row) ts = comes_first open_list ts
  begins_row (leaf (a_path slashes) row) ts = begins_path slashes ts
  begins_row (own s row) ts = begins_child s ts
  begins_row (unended s row) ts = begins_part ts
  begins_row _ ts = false

  -- the label of a statement: by its first token behind attributes, or by what stands behind its first expression; none where no
  -- expression is read
  abbrev pub label_of_statement : List Token → Option Label
  label_of_statement ts =
      elim (statement_label ts) as (λ _. Option Label) [ None ↦ option_and_then (λ x. label_behind_expression x.1) (child an_expression ts) | Some l ↦ Some l ]

  -- the label of a node of a sort, by the tokens it begins with
  abbrev pub label_first : Sort → List Token → Option Label
  label_first an_expression ts = Some (at expression_node 0 0)
  label_first a_bare_expression ts = operand_label ts (behind_child a_type ts)
  label_first a_call ts = Some (kind call)
  label_first a_type ts = Some (kind type_expression)
  label_first an_argument ts = Some (kind template_argument)
  label_first an_attribute ts = Some (at attribute_node 0 0)
  label_first a_bare_attribute ts = attribute_label ts
  label_first a_body ts = Some (kind compound)
  label_first an_if ts = Some (kind if_clause)
  label_first an_else_if ts = Some (kind else_if_clause)
  label_first an_else ts = Some (kind else_clause)
  label_first a_clause ts = Some (kind switch_clause)
  label_first a_selector ts = Some (kind (if begins_word (codes "default") ts then default_case else expression_case))
  label_first a_continuing ts = Some (kind continuing)
  label_first a_break_if ts = Some (kind break_if)
  label_first a_kind ts = labelled kind (by_word words_of_kinds ts)
  label_first a_space ts = labelled space (by_word words_of_spaces ts)
  label_first an_access ts = labelled access (by_word words_of_accesses ts)
  label_first a_content ts = Some (kind (if begins_sign is.BraceLeft ts then import_collection else import_item))
  label_first an_entry ts = Some (kind import_entry)
  label_first an_import ts = Some (at import_node 0 0)
  label_first a_bare_import ts = Some (kind import_statement)
  label_first a_directive ts = Some (at directive_node 0 0)
  label_first a_bare_directive ts = labelled kind (by_word words_of_directives (behind_attributes ts))
  label_first a_member ts = Some (at member_node 0 0)
  label_first a_bare_member ts = Some (kind member)
  label_first a_parameter ts = Some (kind parameter)
  label_first a_statement ts = Some (at statement_node 0 0)
  label_first a_bare_statement ts = label_of_statement (behind_attributes ts)
  label_first a_declaration ts = Some (at declaration_node 0 0)
  label_first a_bare_declaration ts = declaration_label (behind_attributes ts)

  -- `_` as the target of an assignment
  abbrev pub wildcard : TreeOf Text
  wildcard = node_of (at expression_node 0 0) (before (branch type_or_identifier (branch type_expression (branch absent [] ∷ tree_leaf (ident reference (codes "_")) ∷ branch absent [] ∷ []) ∷ [])) end)

  -- a target, and what is left
  abbrev pub read_target : Reader
  read_target ts =
      if begins_word (codes "_") ts then Some (wildcard, behind_first ts)
      else after (child an_expression ts) (λ t us. where_so (is_tight (class_of (label_at 0 t.children)) && leads_to_place (before t end)) t us)

  -- the selectors of a clause: `default` alone, or those behind `case`
  abbrev pub lone_default : Forest
  lone_default = before (branch default_case []) end

  abbrev pub read_selectors : ForestReader
  read_selectors ts =
      if begins_word (codes "default") ts then Some (lone_default, behind_first ts)
      else option_and_then (λ us. separate_of (begins_child a_selector) (child a_selector) (length us) us) (behind_token (name (codes "case")) ts)

  module _ (part : Sort → Reader) where
    -- the children of a node, by its row; `part` reads a statement without its last token
    abbrev pub read_row : Row → ForestReader
    read_row nothing ts = Some (end, ts)
    read_row (sym s row) ts = option_and_then (read_row row) (behind_token (symbol s) ts)
    read_row (may_sym s row) ts = read_row row (behind_if_there (symbol s) ts)
    read_row (says w row) ts = option_and_then (read_row row) (behind_token (name w) ts)
    read_row (opens row) ts = option_and_then (read_row row) (behind_token open_list ts)
    read_row (closes row) ts = option_and_then (read_row row) (behind_token close_list ts)
    read_row (own s row) ts = after (child s ts) (λ t us. and_others t (read_row row us))
    read_row (leaf f row) ts = after (read_leaf f ts) (λ l us. and_others (tree_leaf l) (read_row row us))
    read_row (run k s row) ts = after (all_of (begins_child s) (child s) (length ts) ts) (λ f us. and_others (node_of (kind k) f) (read_row row us))
    read_row (commas k s row) ts = after (separate_of (begins_child s) (child s) (length ts) ts) (λ f us. and_others (node_of (kind k) f) (read_row row us))
    read_row (optional ins row) ts = elim (begins_row ins ts) as (λ _. Read Forest) [
      | false ↦ and_others (branch absent []) (read_row row ts)
      | true ↦ after (read_row ins ts) (λ f us. and_others (node_of (kind present) f) (read_row row us))
    ]
    read_row (inside k ins row) ts = after (read_row ins ts) (λ f us. and_others (node_of (kind k) f) (read_row row us))
    read_row (target row) ts = after (read_target ts) (λ t us. and_others t (read_row row us))
    read_row (selectors row) ts = after (read_selectors ts) (λ f us. and_others (node_of (kind list) f) (read_row row us))
    read_row (unended s row) ts = after (part s ts) (λ t us. and_others t (read_row row us))
    read_row (arrow (run k s row)) ts = elim (begins_sign is.Arrow ts) as (λ _. Read Forest) [
      | false ↦ after (read_row row ts) (λ f us. where_so (is_absent_at 0 f) (before (branch k []) f) us)
      | true ↦ after (read_row (run k s row) (behind_first ts)) (λ f us. where_so (not (is_absent_at 1 f)) f us)
    ]
    read_row (arrow row) ts = None

  -- a node of this label in the place of a sort, whose children are read by the row that is made of its row
  abbrev pub read_node : (Row → ForestReader) → Sort → Option Label → Reader
  read_node rows s None ts = None
  read_node rows s (Some l) ts = option_and_then (λ row. after (rows row ts) (λ f us. where_so (fits l f && stands_as s l f) (node_of l f) us)) (row_of s l)

  -- a row without the `;` that it ends with
  abbrev pub without_end : Row → Row
  without_end (sym s nothing) = nothing
  without_end (sym s row) = sym s (without_end row)
  without_end (may_sym s row) = may_sym s (without_end row)
  without_end (says w row) = says w (without_end row)
  without_end (opens row) = opens (without_end row)
  without_end (closes row) = closes (without_end row)
  without_end (own s row) = own s (without_end row)
  without_end (leaf f row) = leaf f (without_end row)
  without_end (run k s row) = run k s (without_end row)
  without_end (commas k s row) = commas k s (without_end row)
  without_end (optional ins row) = optional ins (without_end row)
  without_end (inside k ins row) = inside k ins (without_end row)
  without_end (target row) = target (without_end row)
  without_end (selectors row) = selectors (without_end row)
  without_end (unended s row) = unended s (without_end row)
  without_end (arrow row) = arrow (without_end row)
  without_end nothing = nothing

  -- a simple statement without its `;`, a part of `for`
  abbrev pub read_part : Sort → Reader
  read_part s ts = elim (label_first a_bare_statement ts) as (λ _. Read (TreeOf Text)) [
    | None ↦ None
    | Some l ↦ if is_simple (Some l) then after (read_node (λ row. read_row (λ t us. None) (without_end row)) a_bare_statement (Some l) ts) (λ t us. Some (node_of (at statement_node 0 0) (before t end), us)) else None
  ]

  -- a node of a sort
  abbrev pub node : Sort → Reader
  node s ts = read_node (read_row read_part) s (label_first s ts) ts

-- ---- expressions: one operand, and operators by their classes

-- any class
abbrev pub any : Class → Bool
any c = true

-- an expression with its span
abbrev pub expression : TreeOf Text → TreeOf Text
expression t = node_of (at expression_node 0 0) (before t end)

-- the class of an expression
abbrev pub class_in : TreeOf Text → Class
class_in e = class_of (label_at 0 e.children)

-- whether `.` or `[` comes first
abbrev pub begins_post : List Token → Bool
begins_post ts = begins_sign is.Period ts || begins_sign is.BracketLeft ts

-- an operator that goes on behind an expression of a class, where the whole may have the operator's class
abbrev pub taken : (Class → Bool) → Class → BinaryOperator → Option BinaryOperator
taken p c o = if p (operator_class o) && takes_left (operator_class o) c then Some o else None

abbrev pub next_operator : (Class → Bool) → Class → List Token → Option BinaryOperator
next_operator p c ts = option_and_then (taken p c) (binary_first ts)

-- `child` reads the nodes of an operand, `deeper` the expressions in it whose class passes a test; n bounds the chains
module _ (child : Sort → Reader) (deeper : (Class → Bool) → Reader) where
  -- `.` and `[..]` that go on behind an expression, at most so many
  abbrev pub posts : ℕ → TreeOf Text → Reader
  posts zero e ts = if begins_post ts then None else Some (e, ts)
  posts (suc m) e (symbol is.Period ∷ ts) = after (read_leaf a_name ts) (λ l us. posts m (expression (node_of (kind named_component) (before e (before (tree_leaf l) end)))) us)
  posts (suc m) e (symbol is.BracketLeft ∷ ts) =
      after (deeper any ts) (λ i us. option_and_then (λ vs. posts m (expression (node_of (kind indexing) (before e (before i end)))) vs) (behind_token (symbol is.BracketRight) us))
  posts (suc m) e ts = Some (e, ts)

  -- an operand
  abbrev pub operand : ℕ → Reader
  operand n ts = elim (unary_first ts) as (λ _. Read (TreeOf Text)) [
    | None ↦ after (node child a_bare_expression ts) (λ t us. posts n (expression t) us)
    | Some o ↦ after (deeper is_tight (behind_first ts)) (λ e us. Some (expression (node_of (unary o) (before e end)), us))
  ]

  -- operations that go on behind an expression, at most so many
  abbrev pub go_on : (Class → Bool) → ℕ → TreeOf Text → Reader
  go_on p zero l ts = elim (next_operator p (class_in l) ts) as (λ _. Read (TreeOf Text)) [ None ↦ Some (l, ts) | Some o ↦ None ]
  go_on p (suc n) l ts = elim (next_operator p (class_in l) ts) as (λ _. Read (TreeOf Text)) [
    | None ↦ Some (l, ts)
    | Some o ↦ after (deeper (takes_right (operator_class o)) (behind_first ts)) (λ r us. go_on p n (expression (node_of (binary o) (before l (before r end)))) us)
  ]

  -- an expression whose class passes a test
  abbrev pub whole : (Class → Bool) → ℕ → Reader
  whole p n ts = after (operand n ts) (λ l us. go_on p n l us)

-- ---- all sorts

-- How many nodes may stand in a node of this sort within one level: each stands in one of a higher number. Expressions, bodies,
-- clauses and entries of imports are levels.
abbrev pub rank : Sort → ℕ
rank an_argument = 1
rank a_bare_attribute = 1
rank a_selector = 1
rank an_access = 1
rank a_content = 1
rank an_attribute = 2
rank a_type = 2
rank a_space = 2
rank a_call = 3
rank a_parameter = 3
rank a_bare_member = 3
rank a_kind = 3
rank a_bare_import = 3
rank a_bare_directive = 3
rank a_break_if = 3
rank an_if = 3
rank an_else_if = 3
rank an_else = 3
rank a_bare_expression = 4
rank a_member = 4
rank an_import = 4
rank a_directive = 4
rank a_continuing = 4
rank a_bare_statement = 5
rank a_bare_declaration = 5
rank a_statement = 6
rank a_declaration = 6
rank an_expression = 7
rank a_body = 7
rank a_clause = 7
rank an_entry = 7

-- the nodes of a sort with a rank up to k; those of higher ranks are read by `lower`
abbrev pub ranked : (Sort → Reader) → ℕ → Sort → Reader
ranked lower zero s ts = lower s ts
ranked lower (suc k) s ts = elim (rank s == suc k) as (λ _. Read (TreeOf Text)) [ true ↦ node (ranked lower k) s ts | false ↦ ranked lower k s ts ]

-- whether a sort is that of expressions
abbrev pub is_expression : Sort → Bool
is_expression an_expression = true
is_expression _ = false

-- a tree that is read, where it has at most n levels
abbrev pub within_levels : ℕ → Read (TreeOf Text) → Read (TreeOf Text)
within_levels n r = after r (λ t us. where_so (nat_le (levels (before t end)) n) t us)

-- The nodes of a sort with at most n levels, an expression where its class passes the test. An expression is read only where its
-- tree has no more levels, which bounds what goes on behind an expression too: operators, `.` and `[..]`.
abbrev pub at_level : ℕ → (Class → Bool) → Sort → Reader
at_level zero p s ts = None
at_level (suc n) p s ts = elim (is_expression s) as (λ _. Read (TreeOf Text)) [
  | true ↦ within_levels (suc n) (whole (ranked (at_level n any) 6) (λ q us. at_level n q an_expression us) p n ts)
  | false ↦ ranked (at_level n any) 7 s ts
]

-- the reading of a node of a sort with at most n levels in it
abbrev pub reading : ℕ → Sort → Reader
reading n s ts = ranked (at_level n any) 6 s ts

-- ---- units

-- imports, directives and declarations, where there are no others
abbrev pub unit_of : Forest → Option (UnitOf Text)
unit_of (tree l i (tree m d (tree k e end))) = Some (record { imports = node_of l i; directives = node_of m d; declarations = node_of k e })
unit_of _ = None

-- the unit of what was read, where nothing is left
abbrev pub where_all_is_read : Read Forest → Option (UnitOf Text)
where_all_is_read (Some (f, [])) = unit_of f
where_all_is_read _ = None

-- the reading of a unit with at most n levels
abbrev pub reading_of_unit : ℕ → List Token → Option (UnitOf Text)
reading_of_unit n ts = where_all_is_read (read_row (reading n) (read_part (reading n)) unit_row ts)
