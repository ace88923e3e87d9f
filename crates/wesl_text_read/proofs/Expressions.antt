-- Expressions, one part after another.
use Rattle.std.proofs.Common.{◌≡◌, ◌≤◌, ◌⊎◌, ◌||◌, ◌-◌, ◌++◌, inl, inr, ℕ, zero, suc, List, [], ◌∷◌, Bool, true, false, Option, Some, None, String, Global, string_bytes, bytes_eq, codes, if◌then◌else◌, nat_le, not, refl, sym, ap, ◌∙◌, subst, arith}
use Rattle.std.specs.Option.{option_and_then, is_some}
use Rattle.std.specs.Box.{box_value}
use Rattle.std.specs.Global.{Box}
use Rattle.wesl_tree_names.specs.Path.{Text}
use Rattle.wesl_tree_syntax.specs.Tree.{Forest, Label, Tree, TreeOf, absent, present, kind, unary, binary, before, branch, end, forest_of, leaf, text, truth, list, literal, parenthesized, named_component, indexing, call, call_expression, type_expression, type_or_identifier, template_argument, reference, ident, respell, respell_label}
use Rattle.wesl_tree_syntax.specs.Unit.{name_in}
use Rattle.wesl_tree_syntax.specs.View.{argument_view, expression_tree, expression_view}
use Rattle.wesl_tree_syntax.specs.declared.expression.TemplateArg.{TemplateArg, roll-TemplateArg}
use Rattle.wesl_text_read.proofs.Lists.{Lists, list_more}
use Rattle.wesl_tree_syntax.specs.declared.expression.BinaryOperator.{BinaryOperator}
use Rattle.wesl_tree_syntax.specs.declared.expression.UnaryOperator.{UnaryOperator}
use Rattle.wesl_tree_syntax.specs.declared.expression.Expression.{Expression}
use Rattle.wesl_tree_syntax.specs.declared.span.Spanned.{Spanned}
use Rattle.wesl_text_tokens.specs.declared.symbol.Symbol.{Symbol}
use Rattle.wesl_text_tokens.specs.declared.symbol.Symbol.TheVariants as is
use Rattle.wesl_text_tokens.specs.Tokens.{Token, name, number, symbol, open_list, close_list}
use Rattle.wesl_text_form.specs.Says.{levels}
use Rattle.wesl_text_form.specs.Slots.{behind_token, comes_first}
use Rattle.wesl_text_form.specs.Operators.{Class, is_tight, operator_class, takes_right}
use Rattle.wesl_text_form.specs.Spelling.{Label as SpelledLabel}
use Rattle.wesl_text_form.specs.Productions.{a_bare_expression, a_call, a_name, a_path, a_type, an_argument, an_expression, an_ident, leaf as leaf_row, nothing}
use Rattle.wesl_text_reading.specs.FirstTokens.{begins_expression, begins_sign, behind_first, unary_first}
use Rattle.wesl_text_reading.specs.Leaves.{Read, after, read_leaf, where_so}
use Rattle.wesl_text_reading.specs.Reading.{any, at_level, begins_post, expression, node, node_of, ranked, within_levels}
use Rattle.wesl_text_read.specs.declared.reader.Reader.{Reader}
use Rattle.wesl_text_read.specs.First.{next_expression, number_first, truth_first, word_first}
use Rattle.wesl_text_read.specs.Depth.{levels_in}
use Rattle.wesl_text_read.specs.Leads.{Builds, Keeps, Leads, Makes, Reads, ReadsLabel, Refuses, Skips, Stops, ahead}
use Rattle.wesl_text_read.specs.Levels.{bare_at, component_of, deeper, enclosed_at, indexing_at, inner, operand_at, operation_at, operations_at, post_at, posts_at, prefixed_at}
use Rattle.wesl_text_read.specs.Parts.{ReadsRow, commas_at, list_at, may_at, row_at, template_at}
use Rattle.wesl_text_read.proofs.Deep.{levels_spelled}
use Rattle.wesl_text_read.proofs.Leading.{built, next, nothing_there, seen, stay, under}
use Rattle.wesl_text_read.proofs.Levels.{after-closed, after-one, bare-operand, one-level, prefixed-operand, then-one}
use Rattle.wesl_text_read.proofs.Paths.{sign-is}
use Rattle.wesl_text_read.proofs.Trees.{placed-tree}
use Rattle.wesl_text_read.proofs.Types.{a_template, argument-read, argument_list, behind_path, call-read, call_of, enclosed-read, false-read, number-read, true-read, type-read, type_with, word-read, worded}
use Rattle.wesl_tree_syntax.proofs.Views.{view_argument_of}

-- what was read is seen as another tree that is equal
pub viewed : {f : List Text → Read (TreeOf Text)} {s e : Reader} (t u : Tree) → t ≡ u → Leads f (λ ns. Some (respell (name_in ns) t, ahead e)) s e → Leads f (λ ns. Some (respell (name_in ns) u, ahead e)) s e
viewed {f} {s} {e} t u same p = subst (λ z. Leads f (λ ns. Some (respell (name_in ns) z, ahead e)) s e) same p

-- the same tokens are behind one
behind : {A : Type 0} {s m : Reader} (k : List Text → List Token → Option A) → Skips (λ ts. Some (behind_first ts)) s m → Leads (λ ns. k ns (behind_first (ahead s))) (λ ns. k ns (ahead m)) s m
behind {A} {s} {m} k p = under (λ ns (o : Option (List Token)). option_and_then (k ns) o) (λ ns. refl) p

-- a node that is made is placed
module _ {f : List Text → Read (TreeOf Text)} {s n e : Reader} (t : Tree) (made_node : Expression) (made : Spanned Expression) where
  pub placed_node : Leads f (λ ns. Some (respell (name_in ns) t, ahead n)) s n → Builds t (expression_view made_node) n e → made.node ≡ made_node
      → Leads (λ ns. after (f ns) (λ u us. Some (expression u, us))) (λ ns. Some (respell (name_in ns) (expression_tree made), ahead e)) s e
  placed_node read builds same =
      seen (λ ns. refl) (λ ns. ap (λ z. let r : Read (TreeOf Text) = Some (z, ahead e) in r) (placed-tree (name_in ns) made_node made same))
      (under (λ ns (r : Read (TreeOf Text)). after r (λ u us. Some (expression u, us))) (λ ns. refl) (built t (expression_view made_node) read builds))

-- ---- operations

module _ {s m n e : Reader} where
  pub operation_read : (o : BinaryOperator) (left right : Spanned Expression) (made_node : Expression) (made : Spanned Expression)
      → Skips (λ ts. Some (behind_first ts)) s m
      → Reads (at_level m.levels (takes_right (operator_class o)) an_expression) (expression_tree right) m n
      → Builds (record { label = binary o; children = forest_of (expression_tree left ∷ expression_tree right ∷ []) }) (expression_view made_node) n e
      → made.node ≡ made_node
      → Leads (λ ns. operation_at s.levels o (respell (name_in ns) (expression_tree left)) (ahead s)) (λ ns. Some (respell (name_in ns) (expression_tree made), ahead e)) s e
  operation_read o left right made_node made skip read builds same =
      let q : Class → Bool = takes_right (operator_class o) in
      let here : Reads (at_level s.levels q an_expression) (expression_tree right) m n = subst (λ (l : ℕ). Reads (at_level l q an_expression) (expression_tree right) m n) skip.levels read in
      let K : List Text → TreeOf Text → TreeOf Text = λ ns r. node_of (binary o) (before (respell (name_in ns) (expression_tree left)) (before r end)) in
      let F : List Text → Read (TreeOf Text) → Read (TreeOf Text) = λ ns r. after r (λ u us. Some (K ns u, us)) in
      seen (λ ns. after-one (deeper s.levels q (behind_first (ahead s))) (K ns) (λ u us. Some (expression u, us))) (λ ns. refl)
      (placed_node (record { label = binary o; children = forest_of (expression_tree left ∷ expression_tree right ∷ []) }) made_node made
      (next (behind (λ ns us. F ns (deeper s.levels q us)) skip) (under F (λ ns. refl) here))
      builds same)

  pub prefixed_read : (o : UnaryOperator) (operand : Spanned Expression) (made_node : Expression) (made : Spanned Expression)
      → Skips (λ ts. Some (behind_first ts)) s m
      → Reads (at_level m.levels is_tight an_expression) (expression_tree operand) m n
      → Builds (record { label = unary o; children = forest_of (expression_tree operand ∷ []) }) (expression_view made_node) n e
      → made.node ≡ made_node
      → Reads (prefixed_at s.levels o) (expression_tree made) s e
  prefixed_read o operand made_node made skip read builds same =
      let here : Reads (at_level s.levels is_tight an_expression) (expression_tree operand) m n = subst (λ (l : ℕ). Reads (at_level l is_tight an_expression) (expression_tree operand) m n) skip.levels read in
      let K : TreeOf Text → TreeOf Text = λ r. node_of (unary o) (before r end) in
      let F : List Text → Read (TreeOf Text) → Read (TreeOf Text) = λ ns r. after r (λ u us. Some (K u, us)) in
      seen (λ ns. after-one (deeper s.levels is_tight (behind_first (ahead s))) K (λ u us. Some (expression u, us))) (λ ns. refl)
      (placed_node (record { label = unary o; children = forest_of (expression_tree operand ∷ []) }) made_node made
      (next (behind (λ ns us. F ns (deeper s.levels is_tight us)) skip) (under F (λ ns. refl) here))
      builds same)

-- ---- operands

pub operand_prefixed : {s e : Reader} (o : UnaryOperator) (t : Tree) → unary_first (ahead s) ≡ Some o → Reads (prefixed_at s.levels o) t s e → Reads (operand_at s.levels) t s e
operand_prefixed {s} {e} o t h p = seen (λ ns. prefixed-operand s.levels (ahead s) o h) (λ ns. refl) p

pub operand_bare : {s m e : Reader} (bare_node : Expression) (bare made : Spanned Expression) → unary_first (ahead s) ≡ None
    → Reads (bare_at s.levels) (expression_view bare_node) s m → bare.node ≡ bare_node
    → Leads (λ ns. posts_at m.levels m.levels (respell (name_in ns) (expression_tree bare)) (ahead m)) (λ ns. Some (respell (name_in ns) (expression_tree made), ahead e)) m e
    → Reads (operand_at s.levels) (expression_tree made) s e
operand_bare {s} {m} {e} bare_node bare made h read same posts =
    let here = subst (λ (l : ℕ). Leads (λ ns. posts_at l l (respell (name_in ns) (expression_tree bare)) (ahead m)) (λ ns. Some (respell (name_in ns) (expression_tree made), ahead e)) m e) read.levels posts in
    seen (λ ns. bare-operand s.levels (ahead s) h) (λ ns. refl)
    (next (under (λ ns (r : Read (TreeOf Text)). after r (λ t us. posts_at s.levels s.levels (expression t) us)) (λ ns. refl) read)
    (seen (λ ns. ap (λ z. posts_at s.levels s.levels z (ahead m)) (placed-tree (name_in ns) bare_node bare same)) (λ ns. refl) here))

-- ---- whole expressions

-- a whole expression is read but for the test of its levels
abbrev pub Untested : ℕ → (Class → Bool) → Tree → Reader → Reader → Type 0
Untested l p t s e = Leads (λ ns. at_level l p an_expression (ahead s)) (λ ns. within_levels l (Some (respell (name_in ns) t, ahead e))) s e

pub whole_read : {s m e : Reader} (l : ℕ) (p : Class → Bool) (first made : Spanned Expression) → l ≡ suc s.levels
    → Reads (operand_at s.levels) (expression_tree first) s m
    → Leads (λ ns. operations_at m.levels p m.levels (respell (name_in ns) (expression_tree first)) (ahead m)) (λ ns. Some (respell (name_in ns) (expression_tree made), ahead e)) m e
    → Untested l p (expression_tree made) s e
whole_read {s} {m} {e} l p first made same read operations =
    let here = subst (λ (n : ℕ). Leads (λ ns. operations_at n p n (respell (name_in ns) (expression_tree first)) (ahead m)) (λ ns. Some (respell (name_in ns) (expression_tree made), ahead e)) m e) read.levels operations in
    seen (λ ns. one-level l s.levels p (ahead s) same) (λ ns. refl)
    (under (λ ns (r : Read (TreeOf Text)). within_levels l r) (λ ns. refl)
    (next (under (λ ns (r : Read (TreeOf Text)). after r (λ t us. operations_at s.levels p s.levels t us)) (λ ns. refl) read) here))

-- and is noted as a fault where it has more levels
pub tested_read : {s m e : Reader} (l : ℕ) (p : Class → Bool) (t : Tree) (fits : Bool) → fits ≡ nat_le (levels_in t) l → Untested l p t s m → (not fits ≡ true → Refuses m e) → (not fits ≡ false → e ≡ m) → Reads (at_level l p an_expression) t s e
tested_read {s} {m} {e} l p t fits is untested refuses same = by fits refl where
  test_is : (ns : List Text) → nat_le (levels (before (respell (name_in ns) t) end)) l ≡ fits
  test_is ns = ap (λ z. nat_le z l) (levels_spelled (name_in ns) (λ _. []) (before t end)) ∙ sym is

  tested : (b : Bool) → fits ≡ b → (ns : List Text) → within_levels l (Some (respell (name_in ns) t, ahead m)) ≡ where_so b (respell (name_in ns) t) (ahead m)
  tested b h ns = ap (λ z. where_so z (respell (name_in ns) t) (ahead m)) (test_is ns ∙ h)

  by : (b : Bool) → fits ≡ b → Reads (at_level l p an_expression) t s e
  by false h = next untested (nothing_there (refuses (ap not h)) (tested false h))
  by true h = subst (λ z. Reads (at_level l p an_expression) t s z) (sym (same (ap not h))) (seen (λ ns. refl) (tested true h) untested)

-- ---- `.` and `[..]`

pub component_read : {s m n e : Reader} (base made : Spanned Expression) (made_node : Expression) (x : Text)
    → Skips (λ ts. Some (behind_first ts)) s m → ReadsLabel (read_leaf a_name) (text x) m n
    → Builds (branch named_component (expression_tree base ∷ leaf (text x) ∷ [])) (expression_view made_node) n e → made.node ≡ made_node
    → Leads (λ ns. component_of (respell (name_in ns) (expression_tree base)) (behind_first (ahead s))) (λ ns. Some (respell (name_in ns) (expression_tree made), ahead e)) s e
component_read {s} {m} {n} {e} base made made_node x skip read builds same =
    let K : List Text → SpelledLabel → TreeOf Text = λ ns l. node_of (kind named_component) (before (respell (name_in ns) (expression_tree base)) (before (leaf l) end)) in
    let F : List Text → Read SpelledLabel → Read (TreeOf Text) = λ ns r. after r (λ l us. Some (K ns l, us)) in
    seen (λ ns. after-one (read_leaf a_name (behind_first (ahead s))) (K ns) (λ u us. Some (expression u, us))) (λ ns. refl)
    (placed_node (branch named_component (expression_tree base ∷ leaf (text x) ∷ [])) made_node made
    (next (behind (λ ns us. F ns (read_leaf a_name us)) skip) (under F (λ ns. refl) read))
    builds same)

pub indexing_read : {s m n k e : Reader} (base index made : Spanned Expression) (made_node : Expression)
    → Skips (λ ts. Some (behind_first ts)) s m → Reads (at_level m.levels any an_expression) (expression_tree index) m n → Skips (behind_token (symbol is.BracketRight)) n k
    → Builds (branch indexing (expression_tree base ∷ expression_tree index ∷ [])) (expression_view made_node) k e → made.node ≡ made_node
    → Leads (λ ns. indexing_at s.levels (respell (name_in ns) (expression_tree base)) (behind_first (ahead s))) (λ ns. Some (respell (name_in ns) (expression_tree made), ahead e)) s e
indexing_read {s} {m} {n} {k} {e} base index made made_node skip read close builds same =
    let here : Reads (at_level s.levels any an_expression) (expression_tree index) m n = subst (λ (l : ℕ). Reads (at_level l any an_expression) (expression_tree index) m n) skip.levels read in
    let K : List Text → TreeOf Text → TreeOf Text = λ ns i. node_of (kind indexing) (before (respell (name_in ns) (expression_tree base)) (before i end)) in
    let F : List Text → Read (TreeOf Text) → Read (TreeOf Text) = λ ns r. after r (λ i us. option_and_then (λ vs. Some (K ns i, vs)) (behind_token (symbol is.BracketRight) us)) in
    let G : List Text → Option (List Token) → Read (TreeOf Text) = λ ns o. option_and_then (λ vs. Some (K ns (respell (name_in ns) (expression_tree index)), vs)) o in
    seen (λ ns. after-closed (deeper s.levels any (behind_first (ahead s))) (K ns) (behind_token (symbol is.BracketRight)) (λ u us. Some (expression u, us))) (λ ns. refl)
    (placed_node (branch indexing (expression_tree base ∷ expression_tree index ∷ [])) made_node made
    (next (behind (λ ns us. F ns (deeper s.levels any us)) skip) (next (under F (λ ns. refl) here) (under G (λ ns. refl) close)))
    builds same)

-- ---- what is no operation

pub enclosed_read : {s m n k e : Reader} (inside : Spanned Expression) (made : Tree)
    → Skips (behind_token (symbol is.ParenLeft)) s m → Reads (at_level m.levels any an_expression) (expression_tree inside) m n → Skips (behind_token (symbol is.ParenRight)) n k
    → Builds (branch parenthesized (expression_tree inside ∷ [])) made k e
    → Reads (enclosed_at s.levels) made s e
enclosed_read {s} {m} {n} {k} {e} inside made begin read close builds =
    let here : Reads (at_level s.levels any an_expression) (expression_tree inside) m n = subst (λ (l : ℕ). Reads (at_level l any an_expression) (expression_tree inside) m n) begin.levels read in
    let F : List Text → Read (TreeOf Text) → Read (TreeOf Text) = λ ns r. after r (λ i us. option_and_then (λ vs. Some (branch parenthesized (i ∷ []), vs)) (behind_token (symbol is.ParenRight) us)) in
    let G : List Text → Option (List Token) → Read (TreeOf Text) = λ ns o. option_and_then (λ vs. Some (branch parenthesized (respell (name_in ns) (expression_tree inside) ∷ []), vs)) o in
    let O : List Text → Option (List Token) → Read (TreeOf Text) = λ ns o. option_and_then (λ us. F ns (deeper s.levels any us)) o in
    built (branch parenthesized (expression_tree inside ∷ [])) made
    (next (under O (λ ns. refl) begin) (next (under F (λ ns. refl) here) (under G (λ ns. refl) close)))
    builds

pub bare_enclosed : {s e : Reader} (t : Tree) → begins_sign is.ParenLeft (ahead s) ≡ true → Reads (enclosed_at s.levels) t s e → Reads (bare_at s.levels) t s e
bare_enclosed {s} {e} t h p = seen (λ ns. enclosed-read (inner s.levels) (ahead s) h) (λ ns. refl) p

number-bare : (n : ℕ) (t : Text) (ts : List Token) → number_first ts ≡ Some t → bare_at n ts ≡ Some (branch literal (leaf (text t) ∷ []), behind_first ts)
number-bare n t [] h = cc
number-bare n t (name v ∷ ts) h = cc
number-bare n t (number v ∷ ts) h = let same : v ≡ t = cc in number-read (inner n) v ts ∙ ap (λ z. let r : Read (TreeOf Text) = Some (branch literal (leaf (text z) ∷ []), ts) in r) same
number-bare n t (symbol a ∷ ts) h = cc
number-bare n t (open_list ∷ ts) h = cc
number-bare n t (close_list ∷ ts) h = cc

pub number_read : {s m e : Reader} (t x : Text) → number_first (ahead s) ≡ Some t → Skips (λ ts. Some (behind_first ts)) s m → Makes t x m e → Reads (bare_at s.levels) (branch literal (leaf (text x) ∷ [])) s e
number_read {s} {m} {e} t x h skip makes =
    seen (λ ns. number-bare s.levels t (ahead s) h) (λ ns. refl)
    (next (behind (λ ns us. let r : Read (TreeOf Text) = Some (branch literal (leaf (text t) ∷ []), us) in r) skip)
    (under (λ ns (r : Read Text). after r (λ z us. let q : Read (TreeOf Text) = Some (branch literal (leaf (text z) ∷ []), us) in q)) (λ ns. refl) makes))

truth-by : (n : ℕ) (b : Bool) (t : Text) (ts : List Token) (p q : Bool) → bytes_eq t (codes "true") ≡ p → bytes_eq t (codes "false") ≡ q
    → ◌≡◌ {A = Option Bool} (if p then Some true else if q then Some false else None) (Some b) → bare_at n (name t ∷ ts) ≡ Some (branch literal (leaf (truth b) ∷ []), ts)
truth-by n b t ts true q is_true is_false h = let same : true ≡ b = cc in true-read (inner n) t ts is_true ∙ ap (λ z. let r : Read (TreeOf Text) = Some (branch literal (leaf (truth z) ∷ []), ts) in r) same
truth-by n b t ts false true is_true is_false h = let same : false ≡ b = cc in false-read (inner n) t ts is_true is_false ∙ ap (λ z. let r : Read (TreeOf Text) = Some (branch literal (leaf (truth z) ∷ []), ts) in r) same
truth-by n b t ts false false is_true is_false h = cc

truth-bare : (n : ℕ) (b : Bool) (ts : List Token) → truth_first ts ≡ Some b → bare_at n ts ≡ Some (branch literal (leaf (truth b) ∷ []), behind_first ts)
truth-bare n b [] h = cc
truth-bare n b (name t ∷ ts) h = truth-by n b t ts (bytes_eq t (codes "true")) (bytes_eq t (codes "false")) refl refl h
truth-bare n b (number t ∷ ts) h = cc
truth-bare n b (symbol a ∷ ts) h = cc
truth-bare n b (open_list ∷ ts) h = cc
truth-bare n b (close_list ∷ ts) h = cc

word-by : (n : ℕ) (t : Text) (ts : List Token) (p q : Bool) → bytes_eq t (codes "true") ≡ p → bytes_eq t (codes "false") ≡ q
    → ◌≡◌ {A = Option Bool} (if p then Some true else if q then Some false else None) None → bare_at n (name t ∷ ts) ≡ after (inner n a_type (name t ∷ ts)) (worded (inner n))
word-by n t ts true q is_true is_false h = cc
word-by n t ts false true is_true is_false h = cc
word-by n t ts false false is_true is_false h = word-read (inner n) t ts is_true is_false (call-read (ranked (at_level n any) 2) (name t ∷ ts))

word-bare : (n : ℕ) (ts : List Token) → is_some (word_first ts) ≡ true → truth_first ts ≡ None → bare_at n ts ≡ after (inner n a_type ts) (worded (inner n))
word-bare n [] w h = cc
word-bare n (name t ∷ ts) w h = word-by n t ts (bytes_eq t (codes "true")) (bytes_eq t (codes "false")) refl refl h
word-bare n (number t ∷ ts) w h = cc
word-bare n (symbol a ∷ ts) w h = cc
word-bare n (open_list ∷ ts) w h = cc
word-bare n (close_list ∷ ts) w h = cc

pub truth_read : {s m : Reader} (b : Bool) → truth_first (ahead s) ≡ Some b → Skips (λ ts. Some (behind_first ts)) s m → Reads (bare_at s.levels) (branch literal (leaf (truth b) ∷ [])) s m
truth_read {s} {m} b h skip = seen (λ ns. truth-bare s.levels b (ahead s) h) (λ ns. refl) (behind (λ ns us. let r : Read (TreeOf Text) = Some (branch literal (leaf (truth b) ∷ []), us) in r) skip)

module _ {s m : Reader} (ty : Tree) (w : is_some (word_first (ahead s)) ≡ true) (h : truth_first (ahead s) ≡ None) (read : Reads (inner s.levels a_type) ty s m) where
  worded_on : Leads (λ ns. bare_at s.levels (ahead s)) (λ ns. worded (inner s.levels) (respell (name_in ns) ty) (ahead m)) s m
  worded_on = seen (λ ns. word-bare s.levels (ahead s) w h) (λ ns. refl) (under (λ ns (r : Read (TreeOf Text)). after r (worded (inner s.levels))) (λ ns. refl) read)

  abbrev worded_by : List Text → Bool → Read (TreeOf Text)
  worded_by ns c = elim c as (λ _. Read (TreeOf Text)) [
    | false ↦ Some (branch type_or_identifier (respell (name_in ns) ty ∷ []), ahead m)
    | true ↦ after (call_of (inner s.levels) (respell (name_in ns) ty) (ahead m)) (λ c vs. Some (branch call_expression (c ∷ []), vs))
  ]

  pub worded_type : begins_sign is.ParenLeft (ahead m) ≡ false → Reads (bare_at s.levels) (branch type_or_identifier (ty ∷ [])) s m
  worded_type no_call = seen (λ ns. refl) (λ ns. ap (worded_by ns) no_call) worded_on

  pub worded_call : {e : Reader} (arguments : Tree) → begins_sign is.ParenLeft (ahead m) ≡ true → ReadsRow argument_list arguments m e → Reads (bare_at s.levels) (branch call_expression (branch call (ty ∷ arguments ∷ []) ∷ [])) s e
  worded_call {e} arguments calls row =
      let here = subst (λ (l : ℕ). Leads (λ ns. row_at l argument_list (ahead m)) (λ ns. Some (before (respell (name_in ns) arguments) end, ahead e)) m e) read.levels row in
      next (seen (λ ns. refl) (λ ns. ap (worded_by ns) calls) worded_on)
      (under (λ ns r. after (after r (λ f vs. let q : Read (TreeOf Text) = Some (node_of (kind call) (before (respell (name_in ns) ty) f), vs) in q)) (λ c vs. Some (branch call_expression (c ∷ []), vs))) (λ ns. refl) here)

-- ---- types and calls

pub type_parts : {s m n e : Reader} (p arguments : Tree) (i : ℕ)
    → Reads (may_at s.levels (leaf_row (a_path false) nothing)) p s m → ReadsLabel (read_leaf (an_ident reference)) (ident reference i) m n → Reads (template_at n.levels) arguments n e
    → Reads (inner s.levels a_type) (branch type_expression (p ∷ leaf (ident reference i) ∷ arguments ∷ [])) s e
type_parts {s} {m} {n} {e} p arguments i path named template =
    let here : Reads (template_at s.levels) arguments n e = subst (λ (l : ℕ). Reads (template_at l) arguments n e) (named.levels ∙ path.levels) template in
    seen (λ ns. type-read (inner s.levels) (ahead s)) (λ ns. refl)
    (next (under (λ ns (r : Read (TreeOf Text)). after r (behind_path (inner s.levels))) (λ ns. refl) path)
    (next (under (λ ns (r : Read SpelledLabel). after r (λ l vs. after (a_template (inner s.levels) vs) (type_with (inner s.levels) (respell (name_in ns) p) (leaf l)))) (λ ns. refl) named)
    (under (λ ns (r : Read (TreeOf Text)). after r (type_with (inner s.levels) (respell (name_in ns) p) (leaf (ident reference (name_in ns i))))) (λ ns. refl) here)))

pub call_parts : {s m e : Reader} (ty arguments : Tree) → Reads (inner s.levels a_type) ty s m → ReadsRow argument_list arguments m e → Reads (inner s.levels a_call) (branch call (ty ∷ arguments ∷ [])) s e
call_parts {s} {m} {e} ty arguments read row =
    let here = subst (λ (l : ℕ). Leads (λ ns. row_at l argument_list (ahead m)) (λ ns. Some (before (respell (name_in ns) arguments) end, ahead e)) m e) read.levels row in
    seen (λ ns. call-read (ranked (at_level s.levels any) 2) (ahead s)) (λ ns. refl)
    (next (under (λ ns (r : Read (TreeOf Text)). after r (call_of (inner s.levels))) (λ ns. refl) read)
    (under (λ ns r. after r (λ f vs. let q : Read (TreeOf Text) = Some (node_of (kind call) (before (respell (name_in ns) ty) f), vs) in q)) (λ ns. refl) here))

pub argument_read : {s e : Reader} (t : Tree) → Reads (at_level s.levels any an_expression) t s e → Reads (inner s.levels an_argument) (branch template_argument (t ∷ [])) s e
argument_read {s} {e} t p = seen (λ ns. argument-read (ranked (at_level s.levels any) 0) (ahead s)) (λ ns. refl) (under (λ ns (r : Read (TreeOf Text)). after r (λ x us. Some (branch template_argument (x ∷ []), us))) (λ ns. refl) p)

-- ---- template lists

abbrev template_by : ℕ → List Token → Bool → Read (TreeOf Text)
template_by n ts b = elim b as (λ _. Read (TreeOf Text)) [
  | false ↦ Some (leaf (kind absent), ts)
  | true ↦ after (list_at n (behind_first ts)) (λ t us. Some (branch present (t ∷ []), us))
]

pub template_opened : {s m e : Reader} (t : Tree) → comes_first open_list (ahead s) ≡ true → Skips (λ ts. Some (behind_first ts)) s m → Reads (list_at m.levels) t m e → Reads (template_at s.levels) (branch present (t ∷ [])) s e
template_opened {s} {m} {e} t h skip read =
    let here : Reads (list_at s.levels) t m e = subst (λ (l : ℕ). Reads (list_at l) t m e) skip.levels read in
    let F : List Text → Read (TreeOf Text) → Read (TreeOf Text) = λ ns r. after r (λ x us. Some (branch present (x ∷ []), us)) in
    seen (λ ns. ap (template_by s.levels (ahead s)) h) (λ ns. refl)
    (next (behind (λ ns us. F ns (list_at s.levels us)) skip) (under F (λ ns. refl) here))

abbrev list_by : ℕ → List Token → Bool → Read (TreeOf Text)
list_by n ts b = elim b as (λ _. Read (TreeOf Text)) [
  | false ↦ None
  | true ↦ after (commas_at n list an_argument ts) (λ t us. option_and_then (λ vs. Some (t, vs)) (behind_token close_list us))
]

pub list_closed : {s m e : Reader} (t : Tree) → begins_expression (ahead s) ≡ true → Reads (commas_at s.levels list an_argument) t s m → Skips (behind_token close_list) m e → Reads (list_at s.levels) t s e
list_closed {s} {m} {e} t h read close =
    let F : List Text → Read (TreeOf Text) → Read (TreeOf Text) = λ ns r. after r (λ x us. option_and_then (λ vs. Some (x, vs)) (behind_token close_list us)) in
    let G : List Text → Option (List Token) → Read (TreeOf Text) = λ ns o. option_and_then (λ vs. Some (respell (name_in ns) t, vs)) o in
    seen (λ ns. ap (list_by s.levels (ahead s)) h) (λ ns. refl)
    (next (under F (λ ns. refl) read) (under G (λ ns. refl) close))

-- an argument more of a template list
pub argument_more : {s m n k e : Reader} (goes_on more : Bool) (room less : ℕ) (items items_then : List TemplateArg) (x : Spanned Expression)
    → goes_on ≡ true → room ≡ suc less
    → Lists argument_view an_argument goes_on room items s m
    → Reads (at_level m.levels any an_expression) (expression_tree x) m n
    → (k.fault ≡ None → items_then ≡ items ++ roll-TemplateArg (record { expression = x }) ∷ [])
    → Keeps n k
    → Leads (λ _. Some (next_expression (ahead k))) (λ _. Some (more, ahead e)) k e
    → Lists argument_view an_argument more less items_then s e
argument_more {s} {m} {n} {k} {e} goes_on more room less items items_then x on same inv read put kept comma =
    list_more argument_view an_argument goes_on more room less items items_then (roll-TemplateArg (record { expression = x })) on same inv
    (viewed (branch template_argument (expression_tree x ∷ [])) (argument_view (roll-TemplateArg (record { expression = x }))) (sym (view_argument_of x)) (argument_read (expression_tree x) read)) put kept comma
