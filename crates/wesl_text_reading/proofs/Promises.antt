-- What is said is read, and one text says one tree.
use Rattle.std.proofs.Common.{◌≡◌, ◌≤◌, ℕ, zero, suc, max, Bool, true, false, if◌then◌else◌, List, [], ◌++◌, Some, None, option_and_then, refl, sym as turned, ap, ◌∙◌, le_trans, le_of_suc-le-suc, not-suc-le-zero}
use native.Mathlib.Nat.{le-max_left, le-max_right}
use Rattle.wesl_tree_names.specs.Path.{Text}
use Rattle.wesl_tree_syntax.specs.Tree.{TreeOf, end, tree, before}
use Rattle.wesl_tree_syntax.specs.Unit.{UnitOf, forest_of_unit}
use Rattle.wesl_text_tokens.specs.Tokens.{Token}
use Rattle.wesl_text_form.specs.Slots.{left}
use Rattle.wesl_text_form.specs.Productions.{Sort, an_expression, a_bare_expression, a_call, a_type, an_argument, an_attribute, a_bare_attribute, a_body, an_if, an_else_if, an_else, a_clause, a_selector, a_continuing, a_break_if, a_kind, a_space, an_access, a_content, an_entry, an_import, a_bare_import, a_directive, a_bare_directive, a_member, a_bare_member, a_parameter, a_statement, a_bare_statement, a_declaration, a_bare_declaration}
use Rattle.wesl_text_form.specs.Spelling.{Label, Forest, spells, followed, first_slots}
use Rattle.wesl_text_form.specs.Says.{Says, levels, is_level}
use Rattle.wesl_text_reading.specs.Reading.{node_of, any, expression, ranked, at_level, reading}
use Rattle.wesl_text_reading.specs.Laws.{SaysAs, is_read_alone, TreesAreRead, TokensSayOneTree, UnitsAreRead, TokensSayOneUnit, TextSaysOneUnit}
use Rattle.wesl_text_reading.proofs.Filled.{no_true, of_some, fill, left_joined}
use Rattle.wesl_text_reading.proofs.Within.{Within, Under}
use Rattle.wesl_text_reading.proofs.Complete.{argument_reads, expression_reads, type_reads_at, call_reads_at}
use Rattle.wesl_text_reading.proofs.Attributes.{attribute_reads}
use Rattle.wesl_text_reading.proofs.Runs.{attributes_at, attribute_reads_at, parameter_reads_at, member_reads_at, bare_member_reads_at}
use Rattle.wesl_text_reading.proofs.KindsRead.{kind_reads_at, space_reads_at, access_reads_at}
use Rattle.wesl_text_reading.proofs.Directives.{bare_directive_reads, directive_reads_at}
use Rattle.wesl_text_reading.proofs.Imports.{bare_import_reads, import_reads_at, entry_reads_at, content_reads_at}
use Rattle.wesl_text_reading.proofs.Blocks.{break_if_reads_at}
use Rattle.wesl_text_reading.proofs.Selectors.{selector_reads_at}
use Rattle.wesl_text_reading.proofs.Levels.{levels_at, ifs_at, else_ifs_at, elses_at, bare_statements_at}
use Rattle.wesl_text_reading.proofs.Units.{bare_declarations_at, declarations_at, unit_reads}

-- trees are within as many levels as they have
levels_within : (f : Forest) (n : ℕ) → levels f ≤ n → Within n f
levels_within end n h = tt
levels_within (tree l c o) n h = (
  at (λ m k. levels_within c m k) (is_level l) n (le_trans (le-max_left (if is_level l then suc (levels c) else levels c) (levels o)) h),
  levels_within o n (le_trans (le-max_right (if is_level l then suc (levels c) else levels c) (levels o)) h),
) where
  at : ((m : ℕ) → levels c ≤ m → Within m c) → (b : Bool) (m : ℕ) → (if b then suc (levels c) else levels c) ≤ m → Under b m c
  at below false m k = below m k
  at below true zero k = absurd (not-suc-le-zero k)
  at below true (suc m) k = below m (le_of_suc-le-suc k)

-- what is said alone in the place of a sort is read
alone_reads : (n : ℕ) (s : Sort) (l : Label) (c : Forest) (ts : List Token) → is_read_alone s ≡ true → fill (first_slots l c (spells c) s) ts ≡ Some [] → Within n (tree l c end) → reading n s ts ≡ Some (node_of l c, [])
alone_reads n an_expression l c ts a h w = expression_reads n l c ts [] h w (refl, ((refl, refl), refl), refl)
alone_reads n a_bare_expression l c ts a h w = absurd (no_true a)
alone_reads n a_call l c ts a h w = call_reads_at n l c ts [] h w tt
alone_reads n a_type l c ts a h w = type_reads_at n l c ts [] h w (refl, refl)
alone_reads n an_argument l c ts a h w = argument_reads (ranked (at_level n any) 0) n (λ l c ts us h w e. expression_reads n l c ts us h w e) l c ts [] h w (refl, ((refl, refl), refl), refl)
alone_reads n an_attribute l c ts a h w = attribute_reads_at n l c ts [] h w refl
alone_reads n a_bare_attribute l c ts a h w = attribute_reads (ranked (at_level n any) 0) n (λ l c ts us h w e. expression_reads n l c ts us h w e) l c ts [] h w refl
alone_reads n a_body l c ts a h w = (levels_at n).0 l c ts [] h w
alone_reads n an_if l c ts a h w = ifs_at n (levels_at n).0 l c ts [] h w
alone_reads n an_else_if l c ts a h w = else_ifs_at n (levels_at n).0 l c ts [] h w
alone_reads n an_else l c ts a h w = elses_at n (levels_at n).0 l c ts [] h w
alone_reads n a_clause l c ts a h w = (levels_at n).1 l c ts [] h w
alone_reads n a_selector l c ts a h w = selector_reads_at n l c ts [] h w (refl, ((refl, refl), refl), refl)
alone_reads n a_continuing l c ts a h w = (levels_at n).2 l c ts [] h w
alone_reads n a_break_if l c ts a h w = break_if_reads_at n l c ts [] h w tt
alone_reads n a_kind l c ts a h w = kind_reads_at n l c ts [] h w refl
alone_reads n a_space l c ts a h w = space_reads_at n l c ts [] h w refl
alone_reads n an_access l c ts a h w = access_reads_at n l c ts [] h w tt
alone_reads n a_content l c ts a h w = content_reads_at n l c ts [] h w (refl, refl, refl)
alone_reads n an_entry l c ts a h w = entry_reads_at n l c ts [] h w (refl, refl, refl)
alone_reads n an_import l c ts a h w = import_reads_at n l c ts [] h w tt
alone_reads n a_bare_import l c ts a h w = bare_import_reads (ranked (at_level n any) 2) n (attributes_at n) (λ l c ts us h w e. content_reads_at n l c ts us h w e) l c ts [] h w tt
alone_reads n a_directive l c ts a h w = directive_reads_at n l c ts [] h w tt
alone_reads n a_bare_directive l c ts a h w = bare_directive_reads (ranked (at_level n any) 2) n (attributes_at n) l c ts [] h w tt
alone_reads n a_member l c ts a h w = member_reads_at n l c ts [] h w (refl, refl)
alone_reads n a_bare_member l c ts a h w = bare_member_reads_at n l c ts [] h w (refl, refl)
alone_reads n a_parameter l c ts a h w = parameter_reads_at n l c ts [] h w (refl, refl)
alone_reads n a_statement l c ts a h w = (levels_at n).3 l c ts [] h w refl
alone_reads n a_bare_statement l c ts a h w = bare_statements_at n l c ts [] h w refl
alone_reads n a_declaration l c ts a h w = declarations_at n l c ts [] h w
alone_reads n a_bare_declaration l c ts a h w = bare_declarations_at n l c ts [] h w

pub trees_are_read : TreesAreRead
trees_are_read s n ts t a h k = alone_reads n s t.label t.children ts a (ap (λ z. fill z ts) h.1 ∙ h.2) (levels_within (before t end) n k)

-- ---- one text, one tree

-- of a sort that is read by itself
read_tree : (s : Sort) → is_read_alone s ≡ true → (ts : List Token) (t u : TreeOf Text) → SaysAs s ts t → SaysAs s ts u → t ≡ u
read_tree s a ts t u h k =
    let n : ℕ = levels (before t end) in
    let m : ℕ = levels (before u end) in
    ap (λ o. elim o as (λ _. TreeOf Text) [ None ↦ t | Some x ↦ x.0 ]) (turned (trees_are_read s (max n m) ts t a h (le-max_left n m)) ∙ trees_are_read s (max n m) ts u a k (le-max_right n m))

-- what an expression without its span says, it says with it
with_span : (ts : List Token) (t : TreeOf Text) → SaysAs a_bare_expression ts t → SaysAs an_expression ts (expression t)
with_span ts t h = (h.0 ++ [], ap (λ o. followed o (Some [])) h.1, left_joined h.0 [] ts ∙ ap (λ o. option_and_then (left []) o) h.2)

-- the expression in one with its span
abbrev inside_of : TreeOf Text → Forest → TreeOf Text
inside_of other end = other
inside_of other (tree l c o) = node_of l c

pub tokens_say_one_tree : TokensSayOneTree
tokens_say_one_tree a_bare_expression ts t u h k = ap (λ z. inside_of t z.children) (read_tree an_expression refl ts (expression t) (expression u) (with_span ts t h) (with_span ts u k))
tokens_say_one_tree s ts t u h k = read_tree s refl ts t u h k

-- ---- units

pub units_are_read : UnitsAreRead
units_are_read n ts u h k = unit_reads n u ts (ap (λ z. fill z ts) h.1 ∙ h.2) (levels_within (forest_of_unit u) n k)

pub tokens_say_one_unit : TokensSayOneUnit
tokens_say_one_unit ts u v h k =
    let n : ℕ = levels (forest_of_unit u) in
    let m : ℕ = levels (forest_of_unit v) in
    of_some u v (turned (units_are_read (max n m) ts u h (le-max_left n m)) ∙ units_are_read (max n m) ts v k (le-max_right n m))

pub text_says_one_unit : TextSaysOneUnit
text_says_one_unit t u v h k = tokens_say_one_unit h.0 u v h.2 (says_again h.0 k.0 v (of_some k.0 h.0 (turned k.1 ∙ h.1)) k.2) where
  says_again : (ts us : List Token) (v : UnitOf Text) → us ≡ ts → Says us v → Says ts v
  says_again ts us v q s = (s.0, s.1, ap (λ z. left s.0 z) (turned q) ∙ s.2)
