-- Expressions are read: operands, what goes on behind them, and operations by their classes.
use Rattle.std.proofs.Common.{◌≡◌, ℕ, zero, suc, Bool, true, false, not, ◌&&◌, ◌||◌, if◌then◌else◌, List, [], ◌∷◌, Option, Some, None, option_and_then, refl, sym as turned, ap, ◌∙◌, subst}
use Rattle.wesl_tree_names.specs.Path.{Text}
use Rattle.wesl_tree_syntax.specs.Tree.{Kind, kind, at, ident, text, texts, truth, path, unary, binary, assignment, space, access, end, tree, TreeOf, before, leaf as tree_leaf, expression_node, named_component, indexing}
use Rattle.wesl_tree_syntax.specs.Kinds.{same_kind}
use Rattle.wesl_tree_syntax.specs.declared.expression.UnaryOperator.{UnaryOperator}
use Rattle.wesl_tree_syntax.specs.declared.expression.BinaryOperator.{BinaryOperator}
use Rattle.wesl_tree_syntax.specs.declared.expression.BinaryOperator.TheVariants as binary_operator
use Rattle.wesl_text_tokens.specs.declared.symbol.Symbol.{Symbol}
use Rattle.wesl_text_tokens.specs.declared.symbol.Symbol.TheVariants as is
use Rattle.wesl_text_tokens.specs.Tokens.{Token, name, symbol, open_list}
use Rattle.wesl_text_form.specs.Slots.{behind_token, comes_first}
use Rattle.wesl_text_form.specs.Names.{is_name, is_word, is_free}
use Rattle.wesl_text_form.specs.Operators.{unary_symbol, binary_symbol, Class, primary, same_class, class_of, operator_class, is_tight, takes_left, takes_right}
use Rattle.wesl_text_form.specs.Productions.{Sort, an_expression, a_bare_expression, a_name, Row, nothing, sym, own, leaf, row_of}
use Rattle.wesl_text_form.specs.Says.{is_level}
use Rattle.wesl_text_form.specs.Spelling.{Label, Forest, Slots, spells, followed, named, signed, leaf_slots, first_slots, fits, stands_as, class_at, label_at, is_end}
use Rattle.wesl_text_reading.specs.Leaves.{Read, after}
use Rattle.wesl_text_reading.specs.FirstTokens.{behind_first, begins_sign, binary_first, unary_first}
use Rattle.wesl_text_reading.specs.Reading.{Reader, node_of, node, any, expression, class_in, begins_post, taken, next_operator, posts, operand, go_on, whole}
use Rattle.wesl_text_reading.proofs.Filled.{no_some, of_some, no_true, fill, parts, one, stands}
use Rattle.wesl_text_reading.proofs.Takes.{where_true, first_parts}
use Rattle.wesl_text_reading.proofs.KindsAgain.{kind_is, end_is}
use Rattle.wesl_text_reading.proofs.Within.{Within, Under, within_below}
use Rattle.wesl_text_reading.proofs.Classes.{none_on_the_right, takes_the_right, closed_right, closed_tight, takes_tight, binary_again, unary_again, never_tight}
use Rattle.std.proofs.lemmas.Bool.{and_parts}

-- what may come behind a type, and behind an operand
abbrev pub Ends : List Token → Type 0
Ends us = (comes_first open_list us ≡ false) × (begins_sign is.ColonColon us ≡ false)

abbrev pub Closes : List Token → Type 0
Closes us = Ends us × (begins_sign is.ParenLeft us ≡ false)

-- no operator comes first, or one that takes an expression of this class on its left
abbrev pub may_follow : Class → List Token → Bool
may_follow c ts = elim (binary_first ts) as (λ _. Bool) [ None ↦ true | Some o ↦ takes_left (operator_class o) c ]

-- a test that holds of the left operands of what it holds of
abbrev pub Closed : (Class → Bool) → Type 0
Closed p = (k c : Class) → p k ≡ true → takes_left k c ≡ true → p c ≡ true

-- an expression by the trees below its label
abbrev pub whole_of : Forest → TreeOf Text
whole_of c = node_of (at expression_node 0 0) c

abbrev pub class_below : Forest → Class
class_below c = class_of (label_at 0 c)

-- what is promised of a reader of expressions, of those with at most n levels
abbrev pub ReadsExpressions : ((Class → Bool) → Reader) → ℕ → Type 0
ReadsExpressions r n =
    (p : Class → Bool) → Closed p → (l : Label) (c : Forest) (ts us : List Token) → fill (first_slots l c (spells c) an_expression) ts ≡ Some us → Within n (tree l c end) → p (class_below c) ≡ true
    → begins_post us ≡ false → Closes us → may_follow (class_below c) us ≡ true → next_operator p (class_below c) us ≡ None → r p ts ≡ Some (node_of l c, us)

-- ---- shapes

-- the label of an expression
expression_label : (l : Label) (r : Row) → row_of an_expression l ≡ Some r → (l ≡ at expression_node 0 0) × (own a_bare_expression nothing ≡ r)
expression_label (at k zero zero) r h = by (same_kind expression_node k) refl h where
  by : (b : Bool) → same_kind expression_node k ≡ b → (if b then Some (own a_bare_expression nothing) else None) ≡ Some r → ((let l : Label = at k 0 0 in l) ≡ at expression_node 0 0) × (own a_bare_expression nothing ≡ r)
  by true e g = (ap (λ z. let l : Label = at z 0 0 in l) (turned (kind_is expression_node k e)), of_some (own a_bare_expression nothing) r g)
  by false e g = absurd (no_some r g)
expression_label (kind k) r h = absurd (no_some r h)
expression_label l r h = absurd (no_some r h)

pub expression_parts : (l : Label) (c : Forest) (ts us : List Token) → fill (first_slots l c (spells c) an_expression) ts ≡ Some us → (l ≡ at expression_node 0 0) × (fill ((spells c).row (own a_bare_expression nothing)) ts ≡ Some us)
expression_parts l c ts us h =
    let x : (r : Row) × (row_of an_expression l ≡ Some r) × ((fits l c && stands_as an_expression l c) ≡ true) × (fill ((spells c).row r) ts ≡ Some us) = first_parts l c (spells c) an_expression ts us h in
    let y : (l ≡ at expression_node 0 0) × (own a_bare_expression nothing ≡ x.0) = expression_label l x.0 x.1 in
    (y.0, subst (λ z. fill ((spells c).row z) ts ≡ Some us) (turned y.1) x.3)

-- no tree is behind the last one
pub last_one : (o : Forest) (a : Slots) (ts us : List Token) → fill (followed a ((spells o).row nothing)) ts ≡ Some us → (o ≡ end) × (fill a ts ≡ Some us)
last_one end a ts us h = let x : (vs : List Token) × (fill a ts ≡ Some vs) × (Some vs ≡ Some us) = parts a (Some []) ts us h in (refl, x.1 ∙ x.2)
last_one (tree l c o) a ts us h = let x : (vs : List Token) × (fill a ts ≡ Some vs) × (fill None vs ≡ Some us) = parts a None ts us h in absurd (no_some us x.2)

-- an expression alone
pub one_expression : (f : Forest) (ts us : List Token) → fill ((spells f).row (own an_expression nothing)) ts ≡ Some us
    → (l : Label) × (c : Forest) × (f ≡ tree l c end) × (fill (first_slots l c (spells c) an_expression) ts ≡ Some us)
one_expression end ts us h = absurd (no_some us h)
one_expression (tree l c o) ts us h = let x : (o ≡ end) × (fill (first_slots l c (spells c) an_expression) ts ≡ Some us) = last_one o (first_slots l c (spells c) an_expression) ts us h in (l, c, ap (λ z. tree l c z) x.0, x.1)

-- a token of a row
pub row_token : (f : Forest) (s : Symbol) (row : Row) (ts us : List Token) → fill ((spells f).row (sym s row)) ts ≡ Some us → (vs : List Token) × (ts ≡ symbol s ∷ vs) × (fill ((spells f).row row) vs ≡ Some us)
row_token f s row ts us h = with_forest f h where
  found : (b : Slots) → fill (followed (Some (signed s ∷ [])) b) ts ≡ Some us → (vs : List Token) × (ts ≡ symbol s ∷ vs) × (fill b vs ≡ Some us)
  found b g = let x : (vs : List Token) × (fill (Some (signed s ∷ [])) ts ≡ Some vs) × (fill b vs ≡ Some us) = parts (Some (signed s ∷ [])) b ts us g in (x.0, stands (symbol s) ts x.0 (one (signed s) ts x.0 x.1), x.2)

  with_forest : (f : Forest) → fill ((spells f).row (sym s row)) ts ≡ Some us → (vs : List Token) × (ts ≡ symbol s ∷ vs) × (fill ((spells f).row row) vs ≡ Some us)
  with_forest end g = found _ g
  with_forest (tree l c o) g = found _ g

-- a name that is the last leaf
last_name : (f : Forest) (ts us : List Token) → fill ((spells f).row (leaf a_name nothing)) ts ≡ Some us → (t : Text) × (f ≡ tree (text t) end end) × (is_free t ≡ true) × (ts ≡ name t ∷ us)
last_name end ts us h = absurd (no_some us h)
last_name (tree l c o) ts us h =
    let y : (is_end c ≡ true) × (fill (followed (leaf_slots a_name l o) ((spells o).row nothing)) ts ≡ Some us) = where_true (is_end c) (followed (leaf_slots a_name l o) ((spells o).row nothing)) ts us h in
    let x : (o ≡ end) × (fill (leaf_slots a_name l o) ts ≡ Some us) = last_one o (leaf_slots a_name l o) ts us y.1 in by l x.0 x.1 (end_is c y.0) where
      by : (l : Label) → o ≡ end → fill (leaf_slots a_name l o) ts ≡ Some us → c ≡ end → (t : Text) × (tree l c o ≡ tree (text t) end end) × (is_free t ≡ true) × (ts ≡ name t ∷ us)
      by (text t) p g q =
          let z : (is_name t ≡ true) × (fill (Some (named t ∷ [])) ts ≡ Some us) = where_true (is_name t) (Some (named t ∷ [])) ts us g in
          (t, ap (λ z. tree (text t) z o) q ∙ ap (λ z. tree (text t) end z) p, (and_parts (is_word t) (is_free t) z.0).1, stands (name t) ts us (one (named t) ts us z.1))
      by l p g q = absurd (no_some us g)

-- ---- fuel

abbrev pub is_post : Label → Bool
is_post (kind k) = same_kind k named_component || same_kind k indexing
is_post _ = false

abbrev pub is_binary : Label → Bool
is_binary (binary o) = true
is_binary _ = false

-- how many levels a reader with so many left had at the first operand; and the same of `.` and `[..]`
abbrev pub deeper : Forest → ℕ → ℕ
deeper (tree b (tree l c o) x) m = elim (is_binary b && is_level l) as (λ _. ℕ) [ true ↦ deeper c (suc m) | false ↦ m ]
deeper _ m = m

abbrev pub longer : Forest → ℕ → ℕ
longer (tree b (tree l c o) x) m = elim (is_post b && is_level l) as (λ _. ℕ) [
  | true ↦ longer c (suc m)
  | false ↦ elim (is_binary b && is_level l) as (λ _. ℕ) [ true ↦ longer c m | false ↦ m ]
]
longer _ m = m

deeper_suc : (c : Forest) (m : ℕ) → deeper c (suc m) ≡ suc (deeper c m)
deeper_suc end m = refl
deeper_suc (tree b end x) m = refl
deeper_suc (tree b (tree l c o) x) m = by (is_binary b && is_level l) (deeper_suc c (suc m)) where
  by : (z : Bool) → deeper c (suc (suc m)) ≡ suc (deeper c (suc m)) → elim z as (λ _. ℕ) [ true ↦ deeper c (suc (suc m)) | false ↦ suc m ] ≡ suc (elim z as (λ _. ℕ) [ true ↦ deeper c (suc m) | false ↦ m ])
  by true h = h
  by false h = refl

longer_suc : (c : Forest) (m : ℕ) → longer c (suc m) ≡ suc (longer c m)
longer_suc end m = refl
longer_suc (tree b end x) m = refl
longer_suc (tree b (tree l c o) x) m = by (is_post b && is_level l) (is_binary b && is_level l) (longer_suc c (suc m)) (longer_suc c m) where
  by : (y z : Bool) → longer c (suc (suc m)) ≡ suc (longer c (suc m)) → longer c (suc m) ≡ suc (longer c m)
      → elim y as (λ _. ℕ) [ true ↦ longer c (suc (suc m)) | false ↦ elim z as (λ _. ℕ) [ true ↦ longer c (suc m) | false ↦ suc m ] ] ≡ suc (elim y as (λ _. ℕ) [ true ↦ longer c (suc m) | false ↦ elim z as (λ _. ℕ) [ true ↦ longer c m | false ↦ m ] ])
  by true z h g = h
  by false true h g = g
  by false false h g = refl

-- one level down, at a label that is one
one_down : (T : Type 0) (l : Label) (c o : Forest) (n : ℕ) → is_level l ≡ true → Within n (tree l c o) → ((m : ℕ) → n ≡ suc m → Within m c → T) → T
one_down T l c o n e w f = at n refl (subst (λ z. Under z n c) e w.0) where
  at : (m : ℕ) → n ≡ m → Under true m c → T
  at zero q u = absurd u
  at (suc m) q u = f m q u

-- chains are no longer than there are levels
pub deep_enough : (c : Forest) (n : ℕ) → Within n c → (m : ℕ) × (deeper c m ≡ n)
deep_enough end n w = (n, refl)
deep_enough (tree b end x) n w = (n, refl)
deep_enough (tree b (tree l c o) x) n w = by (λ k u. deep_enough c k u) (is_binary b && is_level l) refl where
  by : ((k : ℕ) → Within k c → (m : ℕ) × (deeper c m ≡ k)) → (z : Bool) → (is_binary b && is_level l) ≡ z → (m : ℕ) × (elim z as (λ _. ℕ) [ true ↦ deeper c (suc m) | false ↦ m ] ≡ n)
  by ih false e = (n, refl)
  by ih true e = one_down ((m : ℕ) × (deeper c (suc m) ≡ n)) l c o n (and_parts (is_binary b) (is_level l) e).1 (within_below b (tree l c o) x n w) (λ k q u.
      let y : (m : ℕ) × (deeper c m ≡ k) = ih k u in (y.0, deeper_suc c y.0 ∙ (ap (λ z. suc z) y.1 ∙ turned q)))

pub long_enough : (c : Forest) (n : ℕ) → Within n c → (m : ℕ) × (longer c m ≡ n)
long_enough end n w = (n, refl)
long_enough (tree b end x) n w = (n, refl)
long_enough (tree b (tree l c o) x) n w = by (λ k u. long_enough c k u) (is_post b && is_level l) (is_binary b && is_level l) refl where
  by : ((k : ℕ) → Within k c → (m : ℕ) × (longer c m ≡ k)) → (y z : Bool) → (is_post b && is_level l) ≡ y → (m : ℕ) × (elim y as (λ _. ℕ) [ true ↦ longer c (suc m) | false ↦ elim z as (λ _. ℕ) [ true ↦ longer c m | false ↦ m ] ] ≡ n)
  by ih true z e = one_down ((m : ℕ) × (longer c (suc m) ≡ n)) l c o n (and_parts (is_post b) (is_level l) e).1 (within_below b (tree l c o) x n w) (λ k q u.
      let y : (m : ℕ) × (longer c m ≡ k) = ih k u in (y.0, longer_suc c y.0 ∙ (ap (λ z. suc z) y.1 ∙ turned q)))
  by ih false true e = ih n (within_below l c o n (within_below b (tree l c o) x n w))
  by ih false false e = (n, refl)

-- ---- classes and what follows

untaken : (c : Class) (o : Option BinaryOperator) → option_and_then (taken is_tight c) o ≡ None
untaken c None = refl
untaken c (Some o) = ap (λ b. if b && takes_left (operator_class o) c then Some o else None) (never_tight o)

follows_tight : (c : Class) → is_tight c ≡ true → (us : List Token) → may_follow c us ≡ true
follows_tight c t us = at (binary_first us) where
  at : (o : Option BinaryOperator) → elim o as (λ _. Bool) [ None ↦ true | Some o ↦ takes_left (operator_class o) c ] ≡ true
  at None = refl
  at (Some o) = takes_tight (operator_class o) c t

untaken_right : (k c : Class) (us : List Token) → may_follow k us ≡ true → next_operator (takes_right k) c us ≡ None
untaken_right k c us h = at (binary_first us) h where
  at : (o : Option BinaryOperator) → elim o as (λ _. Bool) [ None ↦ true | Some o ↦ takes_left (operator_class o) k ] ≡ true → option_and_then (taken (takes_right k) c) o ≡ None
  at None g = refl
  at (Some o) g = ap (λ b. if b && takes_left (operator_class o) c then Some o else None) (none_on_the_right (operator_class o) k g (never_tight o))

follows_right : (k c : Class) (us : List Token) → may_follow k us ≡ true → takes_right k c ≡ true → may_follow c us ≡ true
follows_right k c us h t = at (binary_first us) h where
  at : (o : Option BinaryOperator) → elim o as (λ _. Bool) [ None ↦ true | Some o ↦ takes_left (operator_class o) k ] ≡ true → elim o as (λ _. Bool) [ None ↦ true | Some o ↦ takes_left (operator_class o) c ] ≡ true
  at None g = refl
  at (Some o) g = takes_the_right (operator_class o) k c g t

primary_is : (k : Class) → same_class primary k ≡ true → k ≡ primary
primary_is primary h = refl
primary_is k h = absurd (no_true h)

-- behind an operator's left operand nothing goes on but the operator
op_posts : (o : BinaryOperator) (us : List Token) → begins_post (symbol (binary_symbol o) ∷ us) ≡ false
op_posts binary_operator.ShortCircuitOr us = refl
op_posts binary_operator.ShortCircuitAnd us = refl
op_posts binary_operator.Addition us = refl
op_posts binary_operator.Subtraction us = refl
op_posts binary_operator.Multiplication us = refl
op_posts binary_operator.Division us = refl
op_posts binary_operator.Remainder us = refl
op_posts binary_operator.Equality us = refl
op_posts binary_operator.Inequality us = refl
op_posts binary_operator.LessThan us = refl
op_posts binary_operator.LessThanEqual us = refl
op_posts binary_operator.GreaterThan us = refl
op_posts binary_operator.GreaterThanEqual us = refl
op_posts binary_operator.BitwiseOr us = refl
op_posts binary_operator.BitwiseAnd us = refl
op_posts binary_operator.BitwiseXor us = refl
op_posts binary_operator.ShiftLeft us = refl
op_posts binary_operator.ShiftRight us = refl

op_closes : (o : BinaryOperator) (us : List Token) → Closes (symbol (binary_symbol o) ∷ us)
op_closes binary_operator.ShortCircuitOr us = ((refl, refl), refl)
op_closes binary_operator.ShortCircuitAnd us = ((refl, refl), refl)
op_closes binary_operator.Addition us = ((refl, refl), refl)
op_closes binary_operator.Subtraction us = ((refl, refl), refl)
op_closes binary_operator.Multiplication us = ((refl, refl), refl)
op_closes binary_operator.Division us = ((refl, refl), refl)
op_closes binary_operator.Remainder us = ((refl, refl), refl)
op_closes binary_operator.Equality us = ((refl, refl), refl)
op_closes binary_operator.Inequality us = ((refl, refl), refl)
op_closes binary_operator.LessThan us = ((refl, refl), refl)
op_closes binary_operator.LessThanEqual us = ((refl, refl), refl)
op_closes binary_operator.GreaterThan us = ((refl, refl), refl)
op_closes binary_operator.GreaterThanEqual us = ((refl, refl), refl)
op_closes binary_operator.BitwiseOr us = ((refl, refl), refl)
op_closes binary_operator.BitwiseAnd us = ((refl, refl), refl)
op_closes binary_operator.BitwiseXor us = ((refl, refl), refl)
op_closes binary_operator.ShiftLeft us = ((refl, refl), refl)
op_closes binary_operator.ShiftRight us = ((refl, refl), refl)

-- ---- operands

-- the labels of operands that are no operations and have nothing behind them
abbrev pub is_base : Label → Bool
is_base (kind k) = not (is_post (kind k))
is_base _ = false

binary_is : (b : Label) → is_binary b ≡ true → (o : BinaryOperator) × (b ≡ binary o)
binary_is (binary o) h = (o, refl)
binary_is b h = absurd (no_true h)

pub nothing_row : (o : Forest) (ts us : List Token) → fill ((spells o).row nothing) ts ≡ Some us → (o ≡ end) × (ts ≡ us)
nothing_row end ts us h = (refl, of_some ts us h)
nothing_row (tree l c o) ts us h = absurd (no_some us h)

-- an expression alone, and a token behind it
pub expression_and : (f : Forest) (s : Symbol) (ts us : List Token) → fill ((spells f).row (own an_expression (sym s nothing))) ts ≡ Some us
    → (l : Label) × (c : Forest) × (f ≡ tree l c end) × (fill (first_slots l c (spells c) an_expression) ts ≡ Some (symbol s ∷ us))
expression_and end s ts us h = absurd (no_some us h)
expression_and (tree l c o) s ts us h =
    let x : (vs : List Token) × (fill (first_slots l c (spells c) an_expression) ts ≡ Some vs) × (fill ((spells o).row (sym s nothing)) vs ≡ Some us) = parts (first_slots l c (spells c) an_expression) ((spells o).row (sym s nothing)) ts us h in
    let y : (ws : List Token) × (x.0 ≡ symbol s ∷ ws) × (fill ((spells o).row nothing) ws ≡ Some us) = row_token o s nothing x.0 us x.2 in
    let z : (o ≡ end) × (y.0 ≡ us) = nothing_row o y.0 us y.2 in
    (l, c, ap (λ w. tree l c w) z.0, x.1 ∙ (ap (λ w. Some w) y.1 ∙ ap (λ w. Some (symbol s ∷ w)) z.1))

module _ (child : Sort → Reader) (lower : (Class → Bool) → Reader) (n : ℕ) (ih : ReadsExpressions lower n)
    (base : (b : Label) (c : Forest) (ts us : List Token) → fill (first_slots b c (spells c) a_bare_expression) ts ≡ Some us → is_base b ≡ true → Within n c → Closes us → (unary_first ts ≡ None) × (node child a_bare_expression ts ≡ Some (node_of b c, us))) where
  -- an expression behind which nothing goes on
  pub enclosed : (l : Label) (c : Forest) (ts us : List Token) → fill (first_slots l c (spells c) an_expression) ts ≡ Some us → Within n (tree l c end) → begins_post us ≡ false → Closes us → binary_first us ≡ None → lower any ts ≡ Some (node_of l c, us)
  enclosed l c ts us h w b e o =
      ih any (λ k d x y. refl) l c ts us h w refl b e (ap (λ z. elim z as (λ _. Bool) [ None ↦ true | Some p ↦ takes_left (operator_class p) (class_below c) ]) o) (ap (λ z. option_and_then (taken any (class_below c)) z) o)

  -- an operand that is no operation, where nothing of it goes on
  base_operand : (b : Label) (c : Forest) (ts us : List Token) → fill (first_slots b c (spells c) a_bare_expression) ts ≡ Some us → is_base b ≡ true → Within n c → Closes us → (m : ℕ) → operand child lower m ts ≡ posts child lower m (whole_of (tree b c end)) us
  base_operand b c ts us h k w e m =
      let x : (unary_first ts ≡ None) × (node child a_bare_expression ts ≡ Some (node_of b c, us)) = base b c ts us h k w e in
      ap (λ z. elim z as (λ _. Read (TreeOf Text)) [ None ↦ after (node child a_bare_expression ts) (λ t us. posts child lower m (expression t) us) | Some o ↦ after (lower is_tight (behind_first ts)) (λ e us. Some (expression (node_of (unary o) (before e end)), us)) ]) x.0
      ∙ ap (λ z. after z (λ t us. posts child lower m (expression t) us)) x.1

  -- `.` and `[..]` that go on
  by_name : (e : TreeOf Text) (t : Text) (m : ℕ) (us : List Token) → is_free t ≡ true → posts child lower (suc m) e (symbol is.Period ∷ name t ∷ us) ≡ posts child lower m (expression (node_of (kind named_component) (before e (before (tree_leaf (text t)) end)))) us
  by_name e t m us f = ap (λ b. after (if b then Some (text t, us) else None) (λ l us. posts child lower m (expression (node_of (kind named_component) (before e (before (tree_leaf l) end)))) us)) f

  by_index : (e i : TreeOf Text) (m : ℕ) (ws us : List Token) → lower any ws ≡ Some (i, symbol is.BracketRight ∷ us) → posts child lower (suc m) e (symbol is.BracketLeft ∷ ws) ≡ posts child lower m (expression (node_of (kind indexing) (before e (before i end)))) us
  by_index e i m ws us h = ap (λ z. after z (λ i us. option_and_then (λ vs. posts child lower m (expression (node_of (kind indexing) (before e (before i end)))) vs) (behind_token (symbol is.BracketRight) us))) h

  posts_stop : (m : ℕ) (e : TreeOf Text) (us : List Token) → begins_post us ≡ false → posts child lower m e us ≡ Some (e, us)
  posts_stop zero e us h = ap (λ b. if b then None else Some (e, us)) h
  posts_stop (suc m) e (symbol is.Period ∷ us) h = absurd (no_true (turned h))
  posts_stop (suc m) e (symbol is.BracketLeft ∷ us) h = absurd (no_true (turned h))
  posts_stop (suc m) e us h = refl

  -- what is promised of an expression of which nothing is an operation
  abbrev pub Posted : Forest → Type 0
  Posted c = (ts us : List Token) → fill ((spells c).row (own a_bare_expression nothing)) ts ≡ Some us → class_below c ≡ primary → Within n c → Closes us → (m : ℕ) → operand child lower (longer c m) ts ≡ posts child lower m (whole_of c) us

  post_step : (k : Kind) (l : Label) (c o : Forest) → Posted c → is_post (kind k) ≡ true → (ts us : List Token) → fill (first_slots (kind k) (tree l c o) (spells (tree l c o)) a_bare_expression) ts ≡ Some us → Within n (tree l c o) → (m : ℕ)
      → (is_level l ≡ true) × (operand child lower (longer c (suc m)) ts ≡ posts child lower m (whole_of (tree (kind k) (tree l c o) end)) us)
  post_step k l c o ihc p ts us h w m = at (same_kind k named_component) refl p where
    first_operand : (vs : List Token) → fill (first_slots l c (spells c) an_expression) ts ≡ Some vs → class_below c ≡ primary → Closes vs → (is_level l ≡ true) × (l ≡ at expression_node 0 0) × (operand child lower (longer c (suc m)) ts ≡ posts child lower (suc m) (whole_of c) vs)
    first_operand vs g q e =
        let y : (l ≡ at expression_node 0 0) × (fill ((spells c).row (own a_bare_expression nothing)) ts ≡ Some vs) = expression_parts l c ts vs g in
        (ap is_level y.0, y.0, ihc ts vs y.1 q (within_below l c o n w) e (suc m))

    of_name : k ≡ named_component → (is_level l ≡ true) × (operand child lower (longer c (suc m)) ts ≡ posts child lower m (whole_of (tree (kind k) (tree l c o) end)) us)
    of_name q =
        let x : (r : Row) × (row_of {I = Text} a_bare_expression (kind named_component) ≡ Some r) × ((same_class primary (class_below c) && true) ≡ true) × (fill ((spells (tree l c o)).row r) ts ≡ Some us)
        = first_parts (kind named_component) (tree l c o) (spells (tree l c o)) a_bare_expression ts us (subst (λ z. fill (first_slots (kind z) (tree l c o) (spells (tree l c o)) a_bare_expression) ts ≡ Some us) q h) in
        let y : fill ((spells (tree l c o)).row (own an_expression (sym is.Period (leaf a_name nothing)))) ts ≡ Some us = subst (λ z. fill ((spells (tree l c o)).row z) ts ≡ Some us) (turned (of_some (own an_expression (sym is.Period (leaf a_name nothing))) x.0 x.1)) x.3 in
        let z : (vs : List Token) × (fill (first_slots l c (spells c) an_expression) ts ≡ Some vs) × (fill ((spells o).row (sym is.Period (leaf a_name nothing))) vs ≡ Some us) = parts (first_slots l c (spells c) an_expression) ((spells o).row (sym is.Period (leaf a_name nothing))) ts us y in
        let u : (ws : List Token) × (z.0 ≡ symbol is.Period ∷ ws) × (fill ((spells o).row (leaf a_name nothing)) ws ≡ Some us) = row_token o is.Period (leaf a_name nothing) z.0 us z.2 in
        let v : (t : Text) × (o ≡ tree (text t) end end) × (is_free t ≡ true) × (u.0 ≡ name t ∷ us) = last_name o u.0 us u.2 in
        let e : z.0 ≡ symbol is.Period ∷ name v.0 ∷ us = u.1 ∙ ap (λ s. symbol is.Period ∷ s) v.3 in
        let f : (is_level l ≡ true) × (l ≡ at expression_node 0 0) × (operand child lower (longer c (suc m)) ts ≡ posts child lower (suc m) (whole_of c) z.0)
        = first_operand z.0 z.1 (primary_is (class_below c) (and_parts (same_class primary (class_below c)) true x.2).0) (subst (λ s. Closes s) (turned e) ((refl, refl), refl)) in (
          f.0,
          f.2 ∙ (ap (λ s. posts child lower (suc m) (whole_of c) s) e ∙ (by_name (whole_of c) v.0 m us v.2
              ∙ (ap (λ s. posts child lower m (whole_of (tree (kind named_component) (tree (at expression_node 0 0) c s) end)) us) (turned v.1)
              ∙ (ap (λ s. posts child lower m (whole_of (tree (kind named_component) (tree s c o) end)) us) (turned f.1)
              ∙ ap (λ s. posts child lower m (whole_of (tree (kind s) (tree l c o) end)) us) (turned q))))),
        )

    of_index : k ≡ indexing → (is_level l ≡ true) × (operand child lower (longer c (suc m)) ts ≡ posts child lower m (whole_of (tree (kind k) (tree l c o) end)) us)
    of_index q =
        let x : (r : Row) × (row_of {I = Text} a_bare_expression (kind indexing) ≡ Some r) × ((same_class primary (class_below c) && true) ≡ true) × (fill ((spells (tree l c o)).row r) ts ≡ Some us)
        = first_parts (kind indexing) (tree l c o) (spells (tree l c o)) a_bare_expression ts us (subst (λ z. fill (first_slots (kind z) (tree l c o) (spells (tree l c o)) a_bare_expression) ts ≡ Some us) q h) in
        let y : fill ((spells (tree l c o)).row (own an_expression (sym is.BracketLeft (own an_expression (sym is.BracketRight nothing))))) ts ≡ Some us = subst (λ z. fill ((spells (tree l c o)).row z) ts ≡ Some us) (turned (of_some (own an_expression (sym is.BracketLeft (own an_expression (sym is.BracketRight nothing)))) x.0 x.1)) x.3 in
        let z : (vs : List Token) × (fill (first_slots l c (spells c) an_expression) ts ≡ Some vs) × (fill ((spells o).row (sym is.BracketLeft (own an_expression (sym is.BracketRight nothing)))) vs ≡ Some us) = parts (first_slots l c (spells c) an_expression) ((spells o).row (sym is.BracketLeft (own an_expression (sym is.BracketRight nothing)))) ts us y in
        let u : (ws : List Token) × (z.0 ≡ symbol is.BracketLeft ∷ ws) × (fill ((spells o).row (own an_expression (sym is.BracketRight nothing))) ws ≡ Some us) = row_token o is.BracketLeft (own an_expression (sym is.BracketRight nothing)) z.0 us z.2 in
        let v : (j : Label) × (d : Forest) × (o ≡ tree j d end) × (fill (first_slots j d (spells d) an_expression) u.0 ≡ Some (symbol is.BracketRight ∷ us)) = expression_and o is.BracketRight u.0 us u.2 in
        let f : (is_level l ≡ true) × (l ≡ at expression_node 0 0) × (operand child lower (longer c (suc m)) ts ≡ posts child lower (suc m) (whole_of c) z.0)
        = first_operand z.0 z.1 (primary_is (class_below c) (and_parts (same_class primary (class_below c)) true x.2).0) (subst (λ s. Closes s) (turned u.1) ((refl, refl), refl)) in (
          f.0,
          f.2 ∙ (ap (λ s. posts child lower (suc m) (whole_of c) s) u.1
              ∙ (by_index (whole_of c) (node_of v.0 v.1) m u.0 us (enclosed v.0 v.1 u.0 (symbol is.BracketRight ∷ us) v.3 (subst (λ s. Within n s) v.2 w.1) refl ((refl, refl), refl) refl)
              ∙ (ap (λ s. posts child lower m (whole_of (tree (kind indexing) (tree (at expression_node 0 0) c s) end)) us) (turned v.2)
              ∙ (ap (λ s. posts child lower m (whole_of (tree (kind indexing) (tree s c o) end)) us) (turned f.1)
              ∙ ap (λ s. posts child lower m (whole_of (tree (kind s) (tree l c o) end)) us) (turned q))))),
        )

    at : (z : Bool) → same_kind k named_component ≡ z → (z || same_kind k indexing) ≡ true → (is_level l ≡ true) × (operand child lower (longer c (suc m)) ts ≡ posts child lower m (whole_of (tree (kind k) (tree l c o) end)) us)
    at true e g = of_name (kind_is k named_component e)
    at false e g = of_index (kind_is k indexing g)

  longer_post : (b l : Label) (c o x : Forest) (m : ℕ) → is_post b ≡ true → is_level l ≡ true → longer (tree b (tree l c o) x) m ≡ longer c (suc m)
  longer_post b l c o x m p q = ap (λ z. elim (z && is_level l) as (λ _. ℕ) [ true ↦ longer c (suc m) | false ↦ elim (is_binary b && is_level l) as (λ _. ℕ) [ true ↦ longer c m | false ↦ m ] ]) p
      ∙ ap (λ z. elim z as (λ _. ℕ) [ true ↦ longer c (suc m) | false ↦ elim (is_binary b && is_level l) as (λ _. ℕ) [ true ↦ longer c m | false ↦ m ] ]) q

  longer_base : (b : Label) (d x : Forest) (m : ℕ) → is_post b ≡ false → is_binary b ≡ false → longer (tree b d x) m ≡ m
  longer_base b end x m p q = refl
  longer_base b (tree l c o) x m p q = ap (λ z. elim (z && is_level l) as (λ _. ℕ) [ true ↦ longer c (suc m) | false ↦ elim (is_binary b && is_level l) as (λ _. ℕ) [ true ↦ longer c m | false ↦ m ] ]) p
      ∙ ap (λ z. elim (z && is_level l) as (λ _. ℕ) [ true ↦ longer c m | false ↦ m ]) q

  -- a label without a row is none of an expression's
  no_row : (b : Label) (d : Forest) (ts us : List Token) → row_of a_bare_expression b ≡ None → fill (first_slots b d (spells d) a_bare_expression) ts ≡ Some us → ⊥
  no_row b d ts us e h = no_some us (ap (λ z. fill (option_and_then (λ r. if fits b d && stands_as a_bare_expression b d then (spells d).row r else None) z) ts) (turned e) ∙ h)

  at_none : (k : Kind) (s e : ℕ) → row_of {I = Text} a_bare_expression (at k s e) ≡ None
  at_none k zero zero = refl
  at_none k zero (suc e) = refl
  at_none k (suc s) e = refl

  -- a primary expression is of a kind that is no operation
  primary_label : (b : Label) (d : Forest) (ts us : List Token) → fill (first_slots b d (spells d) a_bare_expression) ts ≡ Some us → class_of (Some b) ≡ primary → (k : Kind) × (b ≡ kind k)
  primary_label (kind k) d ts us h p = (k, refl)
  primary_label (unary o) d ts us h p = absurd (let z : ⊥ = cc in z)
  primary_label (binary o) d ts us h p = absurd (no_primary (turned (never_tight o) ∙ ap is_tight p)) where
    no_primary : false ≡ true → ⊥
    no_primary e = no_true e
  primary_label (at k s e) d ts us h p = absurd (no_row (at k s e) d ts us (at_none k s e) h)
  primary_label (ident r t) d ts us h p = absurd (no_row (ident r t) d ts us refl h)
  primary_label (text t) d ts us h p = absurd (no_row (text t) d ts us refl h)
  primary_label (texts t) d ts us h p = absurd (no_row (texts t) d ts us refl h)
  primary_label (truth t) d ts us h p = absurd (no_row (truth t) d ts us refl h)
  primary_label (assignment t) d ts us h p = absurd (no_row (assignment t) d ts us refl h)
  primary_label (space t) d ts us h p = absurd (no_row (space t) d ts us refl h)
  primary_label (access t) d ts us h p = absurd (no_row (access t) d ts us refl h)
  primary_label (path t) d ts us h p = absurd (no_row (path t) d ts us refl h)

  -- one whose label is of a kind that nothing goes on behind
  plain_posted : (k : Kind) (d x : Forest) (ts us : List Token) → fill (first_slots (kind k) d (spells d) a_bare_expression) ts ≡ Some us → is_post (kind k) ≡ false → Within n d → Closes us → (m : ℕ)
      → operand child lower (longer (tree (kind k) d x) m) ts ≡ posts child lower m (whole_of (tree (kind k) d end)) us
  plain_posted k d x ts us h p w e m = ap (λ z. operand child lower z ts) (longer_base (kind k) d x m p refl) ∙ base_operand (kind k) d ts us h (ap not p) w e m

  posted : (c : Forest) → Posted c
  posted end ts us h p w e m = absurd (no_some us h)
  posted (tree b end x) ts us h p w e m =
      let y : (x ≡ end) × (fill (first_slots b end (spells end) a_bare_expression) ts ≡ Some us) = last_one x (first_slots b end (spells end) a_bare_expression) ts us h in
      let z : (k : Kind) × (b ≡ kind k) = primary_label b end ts us y.1 p in
      by z.0 (is_post (kind z.0)) refl (subst (λ s. fill (first_slots s end (spells end) a_bare_expression) ts ≡ Some us) z.1 y.1)
      ∙ (ap (λ s. posts child lower m (whole_of (tree s end end)) us) (turned z.1) ∙ ap (λ s. posts child lower m (whole_of (tree b end s)) us) (turned y.0)) where
        none_posts : (k : Kind) → (q : is_post (kind k) ≡ true) → fill (first_slots (kind k) end (spells end) a_bare_expression) ts ≡ Some us → ⊥
        none_posts k q g = at (same_kind k named_component) refl q where
          at : (z : Bool) → same_kind k named_component ≡ z → (z || same_kind k indexing) ≡ true → ⊥
          at true r s = no_some us (empty_named (subst (λ s. fill (first_slots (kind s) end (spells end) a_bare_expression) ts ≡ Some us) (kind_is k named_component r) g)) where
            empty_named : fill (first_slots (kind named_component) end (spells end) a_bare_expression) ts ≡ Some us → None ≡ Some us
            empty_named f = f
          at false r s = no_some us (subst (λ s. fill (first_slots (kind s) end (spells end) a_bare_expression) ts ≡ Some us) (kind_is k indexing s) g)

        by : (k : Kind) (z : Bool) → is_post (kind k) ≡ z → fill (first_slots (kind k) end (spells end) a_bare_expression) ts ≡ Some us → operand child lower m ts ≡ posts child lower m (whole_of (tree (kind k) end end)) us
        by k true q g = absurd (none_posts k q g)
        by k false q g = base_operand (kind k) end ts us g (ap not q) tt e m
  posted (tree b (tree l c o) x) ts us h p w e m =
      let y : (x ≡ end) × (fill (first_slots b (tree l c o) (spells (tree l c o)) a_bare_expression) ts ≡ Some us) = last_one x (first_slots b (tree l c o) (spells (tree l c o)) a_bare_expression) ts us h in
      let z : (k : Kind) × (b ≡ kind k) = primary_label b (tree l c o) ts us y.1 p in
      ap (λ s. operand child lower (longer (tree s (tree l c o) x) m) ts) z.1
      ∙ (by (λ ts us h p w e m. posted c ts us h p w e m) z.0 (is_post (kind z.0)) refl (subst (λ s. fill (first_slots s (tree l c o) (spells (tree l c o)) a_bare_expression) ts ≡ Some us) z.1 y.1)
      ∙ (ap (λ s. posts child lower m (whole_of (tree s (tree l c o) end)) us) (turned z.1) ∙ ap (λ s. posts child lower m (whole_of (tree b (tree l c o) s)) us) (turned y.0))) where
        by : Posted c → (k : Kind) (z : Bool) → is_post (kind k) ≡ z → fill (first_slots (kind k) (tree l c o) (spells (tree l c o)) a_bare_expression) ts ≡ Some us
            → operand child lower (longer (tree (kind k) (tree l c o) x) m) ts ≡ posts child lower m (whole_of (tree (kind k) (tree l c o) end)) us
        by ihc k true q g =
            let s : (is_level l ≡ true) × (operand child lower (longer c (suc m)) ts ≡ posts child lower m (whole_of (tree (kind k) (tree l c o) end)) us)
            = post_step k l c o ihc q ts us g (within_below b (tree l c o) x n w) m in
            ap (λ z. operand child lower z ts) (longer_post (kind k) l c o x m q s.0) ∙ s.1
        by ihc k false q g = plain_posted k (tree l c o) x ts us g q (within_below b (tree l c o) x n w) e m

  -- ---- operations

  prefix_reads : (o : UnaryOperator) (d : Forest) (ts us : List Token) → fill (first_slots (unary o) d (spells d) a_bare_expression) ts ≡ Some us → Within n d → begins_post us ≡ false → Closes us → (k : ℕ)
      → operand child lower k ts ≡ Some (whole_of (tree (unary o) d end), us)
  prefix_reads o d ts us h w b e k =
      let x : (r : Row) × (row_of {I = Text} a_bare_expression (unary o) ≡ Some r) × ((is_tight (class_at 0 d) && true) ≡ true) × (fill ((spells d).row r) ts ≡ Some us) = first_parts (unary o) d (spells d) a_bare_expression ts us h in
      let y : fill ((spells d).row (sym (unary_symbol o) (own an_expression nothing))) ts ≡ Some us = subst (λ z. fill ((spells d).row z) ts ≡ Some us) (turned (of_some (sym (unary_symbol o) (own an_expression nothing)) x.0 x.1)) x.3 in
      let z : (vs : List Token) × (ts ≡ symbol (unary_symbol o) ∷ vs) × (fill ((spells d).row (own an_expression nothing)) vs ≡ Some us) = row_token d (unary_symbol o) (own an_expression nothing) ts us y in
      let v : (l : Label) × (c : Forest) × (d ≡ tree l c end) × (fill (first_slots l c (spells c) an_expression) z.0 ≡ Some us) = one_expression d z.0 us z.2 in
      let t : is_tight (class_below v.1) ≡ true = ap (λ s. is_tight (class_at 0 s)) (turned v.2) ∙ (and_parts (is_tight (class_at 0 d)) true x.2).0 in
      let r : lower is_tight z.0 ≡ Some (node_of v.0 v.1, us)
      = ih is_tight closed_tight v.0 v.1 z.0 us v.3 (subst (λ s. Within n s) v.2 w) t b e (follows_tight (class_below v.1) t us) (untaken (class_below v.1) (binary_first us)) in
      ap (λ s. operand child lower k s) z.1
      ∙ (ap (λ s. elim s as (λ _. Read (TreeOf Text)) [ None ↦ after (node child a_bare_expression (symbol (unary_symbol o) ∷ z.0)) (λ t us. posts child lower k (expression t) us) | Some o ↦ after (lower is_tight z.0) (λ e us. Some (expression (node_of (unary o) (before e end)), us)) ]) (unary_again o)
      ∙ (ap (λ s. after s (λ e us. Some (expression (node_of (unary o) (before e end)), us))) r
      ∙ ap (λ s. Some (whole_of (tree (unary o) s end), us)) (turned v.2)))

  -- an operand, where no operation is
  operand_reads : (b : Label) (d x : Forest) (ts us : List Token) → fill ((spells (tree b d x)).row (own a_bare_expression nothing)) ts ≡ Some us → is_binary b ≡ false → Within n (tree b d x) → begins_post us ≡ false → Closes us
      → (k m : ℕ) → longer (tree b d x) m ≡ k → operand child lower k ts ≡ Some (whole_of (tree b d x), us)
  operand_reads b d x ts us h q w p e k m g = by b q h w g where
    primary_one : (b : Label) → class_of (Some b) ≡ primary → fill ((spells (tree b d x)).row (own a_bare_expression nothing)) ts ≡ Some us → Within n (tree b d x) → longer (tree b d x) m ≡ k → operand child lower k ts ≡ Some (whole_of (tree b d x), us)
    primary_one b c h w g = ap (λ z. operand child lower z ts) (turned g) ∙ (posted (tree b d x) ts us h c w e m ∙ posts_stop m (whole_of (tree b d x)) us p)

    by : (b : Label) → is_binary b ≡ false → fill ((spells (tree b d x)).row (own a_bare_expression nothing)) ts ≡ Some us → Within n (tree b d x) → longer (tree b d x) m ≡ k → operand child lower k ts ≡ Some (whole_of (tree b d x), us)
    by (unary o) q h w g =
        let y : (x ≡ end) × (fill (first_slots (unary o) d (spells d) a_bare_expression) ts ≡ Some us) = last_one x (first_slots (unary o) d (spells d) a_bare_expression) ts us h in
        prefix_reads o d ts us y.1 (within_below (unary o) d x n w) p e k ∙ ap (λ s. Some (whole_of (tree (unary o) d s), us)) (turned y.0)
    by (binary o) q h w g = absurd (no_true (turned q))
    by (kind j) q h w g = primary_one (kind j) refl h w g
    by (at j s f) q h w g = primary_one (at j s f) refl h w g
    by (ident j t) q h w g = primary_one (ident j t) refl h w g
    by (text j) q h w g = primary_one (text j) refl h w g
    by (texts j) q h w g = primary_one (texts j) refl h w g
    by (truth j) q h w g = primary_one (truth j) refl h w g
    by (assignment j) q h w g = primary_one (assignment j) refl h w g
    by (space j) q h w g = primary_one (space j) refl h w g
    by (access j) q h w g = primary_one (access j) refl h w g
    by (path j) q h w g = primary_one (path j) refl h w g

  module _ (p : Class → Bool) (closed : Closed p) (k : ℕ) where
    -- an operand, and what goes on
    abbrev pub begun : ℕ → List Token → Read (TreeOf Text)
    begun m ts = after (operand child lower k ts) (λ l us. go_on child lower p m l us)

    goes_on : (o : BinaryOperator) (l r : TreeOf Text) (m : ℕ) (ws us : List Token) → p (operator_class o) ≡ true → takes_left (operator_class o) (class_in l) ≡ true → lower (takes_right (operator_class o)) ws ≡ Some (r, us)
        → go_on child lower p (suc m) l (symbol (binary_symbol o) ∷ ws) ≡ go_on child lower p m (expression (node_of (binary o) (before l (before r end)))) us
    goes_on o l r m ws us h t e =
        ap (λ z. elim z as (λ _. Read (TreeOf Text)) [ None ↦ Some (l, symbol (binary_symbol o) ∷ ws) | Some o ↦ after (lower (takes_right (operator_class o)) ws) (λ r us. go_on child lower p m (expression (node_of (binary o) (before l (before r end)))) us) ])
        (ap (λ z. option_and_then (taken p (class_in l)) z) (binary_again o) ∙ (ap (λ b. if b && takes_left (operator_class o) (class_in l) then Some o else None) h ∙ ap (λ b. if b then Some o else None) t))
        ∙ ap (λ z. after z (λ r us. go_on child lower p m (expression (node_of (binary o) (before l (before r end)))) us)) e

    stops : (m : ℕ) (l : TreeOf Text) (us : List Token) → next_operator p (class_in l) us ≡ None → go_on child lower p m l us ≡ Some (l, us)
    stops zero l us h = ap (λ z. elim z as (λ _. Read (TreeOf Text)) [ None ↦ Some (l, us) | Some o ↦ None ]) h
    stops (suc m) l us h = ap (λ z. elim z as (λ _. Read (TreeOf Text)) [ None ↦ Some (l, us) | Some o ↦ after (lower (takes_right (operator_class o)) (behind_first us)) (λ r us. go_on child lower p m (expression (node_of (binary o) (before l (before r end)))) us) ]) h

    abbrev Spine : Forest → Type 0
    Spine c = (ts us : List Token) → fill ((spells c).row (own a_bare_expression nothing)) ts ≡ Some us → p (class_below c) ≡ true → Within n c → (j : ℕ) → longer c j ≡ k → (m : ℕ) → begins_post us ≡ false → Closes us → may_follow (class_below c) us ≡ true
        → begun (deeper c m) ts ≡ go_on child lower p m (whole_of c) us

    deeper_other : (b : Label) (d x : Forest) (m : ℕ) → is_binary b ≡ false → deeper (tree b d x) m ≡ m
    deeper_other b end x m q = refl
    deeper_other b (tree l c o) x m q = ap (λ z. elim (z && is_level l) as (λ _. ℕ) [ true ↦ deeper c (suc m) | false ↦ m ]) q

    other_spine : (b : Label) (d x : Forest) → is_binary b ≡ false → Spine (tree b d x)
    other_spine b d x q ts us h c w j g m t e f =
        ap (λ z. begun z ts) (deeper_other b d x m q) ∙ ap (λ z. after z (λ l us. go_on child lower p m l us)) (operand_reads b d x ts us h q w t e k j g)

    -- an operation: its left operand, its operator and its right operand
    step : (o : BinaryOperator) (l : Label) (c r x : Forest) → Spine c → Spine (tree (binary o) (tree l c r) x)
    step o l c r x ihc ts us h cl w j g m t e f =
        let y : (x ≡ end) × (fill (first_slots (binary o) (tree l c r) (spells (tree l c r)) a_bare_expression) ts ≡ Some us) = last_one x (first_slots (binary o) (tree l c r) (spells (tree l c r)) a_bare_expression) ts us h in
        let z : (q : Row) × (row_of {I = Text} a_bare_expression (binary o) ≡ Some q) × (((takes_left (operator_class o) (class_below c) && takes_right (operator_class o) (class_at 1 (tree l c r))) && true) ≡ true) × (fill ((spells (tree l c r)).row q) ts ≡ Some us)
        = first_parts (binary o) (tree l c r) (spells (tree l c r)) a_bare_expression ts us y.1 in
        let a : fill ((spells (tree l c r)).row (own an_expression (sym (binary_symbol o) (own an_expression nothing)))) ts ≡ Some us = subst (λ s. fill ((spells (tree l c r)).row s) ts ≡ Some us) (turned (of_some (own an_expression (sym (binary_symbol o) (own an_expression nothing))) z.0 z.1)) z.3 in
        let b : (vs : List Token) × (fill (first_slots l c (spells c) an_expression) ts ≡ Some vs) × (fill ((spells r).row (sym (binary_symbol o) (own an_expression nothing))) vs ≡ Some us) = parts (first_slots l c (spells c) an_expression) ((spells r).row (sym (binary_symbol o) (own an_expression nothing))) ts us a in
        let u : (ws : List Token) × (b.0 ≡ symbol (binary_symbol o) ∷ ws) × (fill ((spells r).row (own an_expression nothing)) ws ≡ Some us) = row_token r (binary_symbol o) (own an_expression nothing) b.0 us b.2 in
        let v : (i : Label) × (d : Forest) × (r ≡ tree i d end) × (fill (first_slots i d (spells d) an_expression) u.0 ≡ Some us) = one_expression r u.0 us u.2 in
        let s : (l ≡ at expression_node 0 0) × (fill ((spells c).row (own a_bare_expression nothing)) ts ≡ Some b.0) = expression_parts l c ts b.0 b.1 in
        let q : (takes_left (operator_class o) (class_below c) ≡ true) × (takes_right (operator_class o) (class_at 1 (tree l c r)) ≡ true) = and_parts (takes_left (operator_class o) (class_below c)) (takes_right (operator_class o) (class_at 1 (tree l c r))) (and_parts (takes_left (operator_class o) (class_below c) && takes_right (operator_class o) (class_at 1 (tree l c r))) true z.2).0 in
        let i : takes_right (operator_class o) (class_below v.1) ≡ true = ap (λ s. takes_right (operator_class o) (class_at 1 (tree l c s))) (turned v.2) ∙ q.1 in
        let level : is_level l ≡ true = ap is_level s.0 in
        let right : lower (takes_right (operator_class o)) u.0 ≡ Some (node_of v.0 v.1, us)
        = ih (takes_right (operator_class o)) (closed_right (operator_class o)) v.0 v.1 u.0 us v.3 (subst (λ s. Within n s) v.2 (within_below (binary o) (tree l c r) x n w).1) i t e
        (follows_right (operator_class o) (class_below v.1) us f i) (untaken_right (operator_class o) (class_below v.1) us f) in
        ap (λ z. begun (elim z as (λ _. ℕ) [ true ↦ deeper c (suc m) | false ↦ m ]) ts) level
        ∙ (ihc ts b.0 s.1 (closed (operator_class o) (class_below c) cl q.0) (within_below l c r n (within_below (binary o) (tree l c r) x n w)) j (ap (λ z. elim z as (λ _. ℕ) [ true ↦ longer c j | false ↦ j ]) (turned level) ∙ g) (suc m)
        (subst (λ z. begins_post z ≡ false) (turned u.1) (op_posts o u.0)) (subst (λ z. Closes z) (turned u.1) (op_closes o u.0)) (subst (λ z. may_follow (class_below c) z ≡ true) (turned u.1) (ap (λ z. elim z as (λ _. Bool) [ None ↦ true | Some o ↦ takes_left (operator_class o) (class_below c) ]) (binary_again o) ∙ q.0))
        ∙ (ap (λ z. go_on child lower p (suc m) (whole_of c) z) u.1
        ∙ (goes_on o (whole_of c) (node_of v.0 v.1) m u.0 us cl q.0 right
        ∙ (ap (λ z. go_on child lower p m (whole_of (tree (binary o) (tree (at expression_node 0 0) c z) end)) us) (turned v.2)
        ∙ (ap (λ z. go_on child lower p m (whole_of (tree (binary o) (tree z c r) end)) us) (turned s.0)
        ∙ ap (λ z. go_on child lower p m (whole_of (tree (binary o) (tree l c r) z)) us) (turned y.0))))))

    no_operands : (o : BinaryOperator) (ts us : List Token) → fill (first_slots (binary o) end (spells end) a_bare_expression) ts ≡ Some us → ⊥
    no_operands o ts us h = no_some us (where_true (fits (binary o) end && true) None ts us h).1

    alone_by : (b : Label) (x : Forest) (z : Bool) → is_binary b ≡ z → Spine (tree b end x)
    alone_by b x false q = other_spine b end x q
    alone_by b x true q = λ ts us h c w j g m t e f.
        let o : (o : BinaryOperator) × (b ≡ binary o) = binary_is b q in
        let y : (x ≡ end) × (fill (first_slots b end (spells end) a_bare_expression) ts ≡ Some us) = last_one x (first_slots b end (spells end) a_bare_expression) ts us h in
        absurd (no_operands o.0 ts us (subst (λ s. fill (first_slots s end (spells end) a_bare_expression) ts ≡ Some us) o.1 y.1))

    spine_by : (b l : Label) (d r x : Forest) → Spine d → (z : Bool) → is_binary b ≡ z → Spine (tree b (tree l d r) x)
    spine_by b l d r x ihd false q = other_spine b (tree l d r) x q
    spine_by b l d r x ihd true q = let o : (o : BinaryOperator) × (b ≡ binary o) = binary_is b q in subst (λ s. Spine (tree s (tree l d r) x)) (turned o.1) (step o.0 l d r x ihd)

    spine : (c : Forest) → Spine c
    spine end = λ ts us h c w j g m t e f. absurd (no_some us h)
    spine (tree b end x) = alone_by b x (is_binary b) refl
    spine (tree b (tree l d r) x) = spine_by b l d r x (spine d) (is_binary b) refl

  -- expressions with one level more are read
  pub whole_reads : (p : Class → Bool) → Closed p → (l : Label) (c : Forest) (ts us : List Token) → fill (first_slots l c (spells c) an_expression) ts ≡ Some us → Within (suc n) (tree l c end) → p (class_below c) ≡ true
      → begins_post us ≡ false → Closes us → may_follow (class_below c) us ≡ true → next_operator p (class_below c) us ≡ None → whole child lower p n ts ≡ Some (node_of l c, us)
  whole_reads p closed l c ts us h w q b e f t =
      let s : (l ≡ at expression_node 0 0) × (fill ((spells c).row (own a_bare_expression nothing)) ts ≡ Some us) = expression_parts l c ts us h in
      let v : Within n c = (subst (λ z. Within (suc n) (tree z c end)) s.0 w).0 in
      let d : (m : ℕ) × (deeper c m ≡ n) = deep_enough c n v in
      let j : (m : ℕ) × (longer c m ≡ n) = long_enough c n v in
      ap (λ z. begun p closed n z ts) (turned d.1)
      ∙ (spine p closed n c ts us s.1 q v j.0 j.1 d.0 b e f
      ∙ (stops p closed n d.0 (whole_of c) us t
      ∙ ap (λ z. Some (node_of z c, us)) (turned s.0)))
