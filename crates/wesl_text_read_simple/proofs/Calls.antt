-- A call that is read as an expression is read as a call too.
use Rattle.std.proofs.Common.{◌≡◌, ◌&&◌, ℕ, zero, suc, List, [], ◌∷◌, Bool, true, false, Option, Some, None, refl, sym as turned, ap, ◌∙◌, true≢false}
use Rattle.std.specs.Option.{option_and_then}
use Rattle.wesl_tree_names.specs.Path.{Text}
use Rattle.wesl_tree_syntax.specs.declared.expression.BinaryOperator.{BinaryOperator}
use Rattle.wesl_tree_syntax.specs.declared.expression.UnaryOperator.{UnaryOperator}
use Rattle.wesl_tree_syntax.specs.Tree.{TreeOf, before, branch, call_expression, end, kind, tree, binary}
use Rattle.wesl_text_tokens.specs.declared.symbol.Symbol.TheVariants as is
use Rattle.wesl_text_tokens.specs.Tokens.{Token, symbol}
use Rattle.wesl_text_form.specs.Operators.{Class, operator_class, takes_right, is_tight}
use Rattle.wesl_text_form.specs.Slots.{behind_token}
use Rattle.wesl_text_form.specs.Productions.{Row, Sort, a_bare_expression, a_call, a_name, an_expression, row_of}
use Rattle.wesl_text_form.specs.Spelling.{Forest, Label, fits, is_kind, label_at, stands_as}
use Rattle.wesl_text_reading.specs.FirstTokens.{behind_first, unary_first}
use Rattle.wesl_text_reading.specs.Leaves.{Read, after, read_leaf, where_so}
use Rattle.wesl_text_reading.specs.Reading.{Reader as TreeReader, and_others, any, begins_post, class_in, expression, label_first, next_operator, node_of, read_node, read_part, read_row}
use Rattle.wesl_text_reading.proofs.Filled.{no_some}
use Rattle.wesl_text_reading.proofs.KindsAgain.{label_is}
use Rattle.wesl_text_reading.proofs.Deeper.{call_deeper}
use Rattle.wesl_text_reading.proofs.Within.{within_read}
use Rattle.wesl_text_read.specs.Levels.{bare_at, component_of, deeper, indexing_at, inner, operand_at, operations_at, post_at, posts_at, prefixed_at}
use Rattle.wesl_text_read.proofs.Levels.{bare-operand, no-post, no-room-behind, one-level, one-post, prefixed-operand}

-- whether an expression is a call, by the trees below it
abbrev pub is_call : TreeOf Text → Bool
is_call e = is_kind call_expression (label_at 0 e.children)

abbrev Result : Type 0
Result = TreeOf Text × List Token

no-call : (b : Bool) → b ≡ true → b ≡ false → ⊥
no-call b p q = true≢false (turned p ∙ q)

-- ---- what is read goes on

-- where what goes on behind a part gives no call, the whole is none
goes-on : {A : Type 0} (r : Read A) (f : A → List Token → Read (TreeOf Text)) (x : Result) → ((y : A × List Token) → f y.0 y.1 ≡ Some x → is_call x.0 ≡ false) → after r f ≡ Some x → is_call x.0 ≡ false
goes-on None f x behind h = absurd (no_some x h)
goes-on (Some y) f x behind h = behind y h

same-tree : (e : TreeOf Text) (us : List Token) (x : Result) → ◌≡◌ {A = Read (TreeOf Text)} (Some (e, us)) (Some x) → e ≡ x.0
same-tree e us x h = ap (λ (o : Read (TreeOf Text)). elim o as (λ _. TreeOf Text) [ None ↦ e | Some y ↦ y.0 ]) h

same-rest : (e : TreeOf Text) (us : List Token) (x : Result) → ◌≡◌ {A = Read (TreeOf Text)} (Some (e, us)) (Some x) → us ≡ x.1
same-rest e us x h = ap (λ (o : Read (TreeOf Text)). elim o as (λ _. List Token) [ None ↦ us | Some y ↦ y.1 ]) h

-- ---- operations

abbrev operations_by : ℕ → (Class → Bool) → ℕ → TreeOf Text → List Token → Option BinaryOperator → Read (TreeOf Text)
operations_by n p k l ts o = elim o as (λ _. Read (TreeOf Text)) [
  | None ↦ Some (l, ts)
  | Some q ↦ after (deeper n (takes_right (operator_class q)) (behind_first ts)) (λ r us. operations_at n p k (expression (node_of (binary q) (before l (before r end)))) us)
]

-- operations behind what is no call are no call
operations-not : (n : ℕ) (p : Class → Bool) (k : ℕ) (l : TreeOf Text) (ts : List Token) (x : Result) → is_call l ≡ false → operations_at n p k l ts ≡ Some x → is_call x.0 ≡ false
operations-not n p zero l ts x c h = by (next_operator p (class_in l) ts) h
  where
    by : (o : Option BinaryOperator) → elim o as (λ _. Read (TreeOf Text)) [ None ↦ Some (l, ts) | Some q ↦ None ] ≡ Some x → is_call x.0 ≡ false
    by None g = ap is_call (turned (same-tree l ts x g)) ∙ c
    by (Some q) g = absurd (no_some x g)
operations-not n p (suc k) l ts x c h = by (λ r us g. operations-not n p k r us x g) (next_operator p (class_in l) ts) h
  where
    by : ((r : TreeOf Text) (us : List Token) → is_call r ≡ false → operations_at n p k r us ≡ Some x → is_call x.0 ≡ false) → (o : Option BinaryOperator) → operations_by n p k l ts o ≡ Some x → is_call x.0 ≡ false
    by later None g = ap is_call (turned (same-tree l ts x g)) ∙ c
    by later (Some q) g =
        goes-on (deeper n (takes_right (operator_class q)) (behind_first ts)) (λ r us. operations_at n p k (expression (node_of (binary q) (before l (before r end)))) us) x
        (λ y. later (expression (node_of (binary q) (before l (before y.0 end)))) y.1 refl) g

-- so a call has none behind it
operations-call : (n : ℕ) (p : Class → Bool) (k : ℕ) (l : TreeOf Text) (ts : List Token) (x : Result) → is_call x.0 ≡ true → operations_at n p k l ts ≡ Some x → (l ≡ x.0) × (ts ≡ x.1)
operations-call n p zero l ts x c h = by (next_operator p (class_in l) ts) h
  where
    by : (o : Option BinaryOperator) → elim o as (λ _. Read (TreeOf Text)) [ None ↦ Some (l, ts) | Some q ↦ None ] ≡ Some x → (l ≡ x.0) × (ts ≡ x.1)
    by None g = (same-tree l ts x g, same-rest l ts x g)
    by (Some q) g = absurd (no_some x g)
operations-call n p (suc k) l ts x c h = by (next_operator p (class_in l) ts) h
  where
    by : (o : Option BinaryOperator) → operations_by n p k l ts o ≡ Some x → (l ≡ x.0) × (ts ≡ x.1)
    by None g = (same-tree l ts x g, same-rest l ts x g)
    by (Some q) g = absurd (no-call (is_call x.0) c
        (goes-on (deeper n (takes_right (operator_class q)) (behind_first ts)) (λ r us. operations_at n p k (expression (node_of (binary q) (before l (before r end)))) us) x
        (λ y. operations-not n p k (expression (node_of (binary q) (before l (before y.0 end)))) y.1 x refl) g))

-- ---- `.` and `[..]`

component-not : (e : TreeOf Text) (ts : List Token) (x : Result) → component_of e ts ≡ Some x → is_call x.0 ≡ false
component-not e ts x h = goes-on (read_leaf a_name ts) _ x (λ y g. ap is_call (turned (same-tree _ y.1 x g))) h

closes-not : (d : TreeOf Text) (o : Option (List Token)) (x : Result) → is_call d ≡ false → option_and_then (λ vs. let r : Read (TreeOf Text) = Some (d, vs) in r) o ≡ Some x → is_call x.0 ≡ false
closes-not d None x c h = absurd (no_some x h)
closes-not d (Some vs) x c h = ap is_call (turned (same-tree d vs x h)) ∙ c

indexing-not : (n : ℕ) (e : TreeOf Text) (ts : List Token) (x : Result) → indexing_at n e ts ≡ Some x → is_call x.0 ≡ false
indexing-not n e ts x h = goes-on (deeper n any ts) _ x (λ y g. closes-not _ (behind_token (symbol is.BracketRight) y.1) x refl g) h

post-not : (n : ℕ) (e : TreeOf Text) (ts : List Token) (x : Result) → post_at n e ts ≡ Some x → is_call x.0 ≡ false
post-not n e (symbol is.Period ∷ ts) x h = component-not e ts x h
post-not n e (symbol is.BracketLeft ∷ ts) x h = indexing-not n e ts x h
post-not n e ts x h = absurd (no_some x h)

posts-not : (n m : ℕ) (e : TreeOf Text) (ts : List Token) (x : Result) → is_call e ≡ false → posts_at n m e ts ≡ Some x → is_call x.0 ≡ false
posts-not n zero e ts x c h = by (begins_post ts) refl
  where
    by : (b : Bool) → begins_post ts ≡ b → is_call x.0 ≡ false
    by false q = ap is_call (turned (same-tree e ts x (turned (no-post n zero e ts q) ∙ h))) ∙ c
    by true q = absurd (no_some x (turned (no-room-behind n zero e ts refl q) ∙ h))
posts-not n (suc m) e ts x c h = by (λ d us g. posts-not n m d us x g) (begins_post ts) refl
  where
    by : ((d : TreeOf Text) (us : List Token) → is_call d ≡ false → posts_at n m d us ≡ Some x → is_call x.0 ≡ false) → (b : Bool) → begins_post ts ≡ b → is_call x.0 ≡ false
    by later false q = ap is_call (turned (same-tree e ts x (turned (no-post n (suc m) e ts q) ∙ h))) ∙ c
    by later true q = behind (post_at n e ts) refl (turned (one-post n (suc m) m e ts refl q) ∙ h)
      where
        behind : (r : Read (TreeOf Text)) → post_at n e ts ≡ r → after r (λ d us. posts_at n m d us) ≡ Some x → is_call x.0 ≡ false
        behind None g k = absurd (no_some x k)
        behind (Some y) g k = later y.0 y.1 (post-not n e ts y g) k

posts-call : (n m : ℕ) (e : TreeOf Text) (ts : List Token) (x : Result) → is_call x.0 ≡ true → posts_at n m e ts ≡ Some x → (e ≡ x.0) × (ts ≡ x.1)
posts-call n m e ts x c h = by (begins_post ts) refl
  where
    same : posts_at n m e ts ≡ Some (e, ts) → (e ≡ x.0) × (ts ≡ x.1)
    same g = (same-tree e ts x (turned g ∙ h), same-rest e ts x (turned g ∙ h))

    behind : (k : ℕ) (r : Read (TreeOf Text)) → post_at n e ts ≡ r → after r (λ d us. posts_at n k d us) ≡ Some x → (e ≡ x.0) × (ts ≡ x.1)
    behind k None g q = absurd (no_some x q)
    behind k (Some y) g q = absurd (no-call (is_call x.0) c (posts-not n k y.0 y.1 x (post-not n e ts y g) q))

    more : (k : ℕ) → m ≡ k → begins_post ts ≡ true → (e ≡ x.0) × (ts ≡ x.1)
    more zero is q = absurd (no_some x (turned (no-room-behind n m e ts is q) ∙ h))
    more (suc k) is q = behind k (post_at n e ts) refl (turned (one-post n m k e ts is q) ∙ h)

    by : (b : Bool) → begins_post ts ≡ b → (e ≡ x.0) × (ts ≡ x.1)
    by false q = same (no-post n m e ts q)
    by true q = more m refl q

-- ---- an operand

prefixed-not : (n : ℕ) (o : UnaryOperator) (ts : List Token) (x : Result) → prefixed_at n o ts ≡ Some x → is_call x.0 ≡ false
prefixed-not n o ts x h = goes-on (deeper n is_tight (behind_first ts)) _ x (λ y g. ap is_call (turned (same-tree _ y.1 x g))) h

-- the first tree below another
abbrev pub first_below : TreeOf Text → TreeOf Text
first_below t = elim t.children as (λ _. TreeOf Text) [ end ↦ t | tree l c o ↦ node_of l c ]

module _ (child : Sort → TreeReader) (ts : List Token) where
  abbrev by_label : Option Label → Read (TreeOf Text)
  by_label o = read_node child (read_row child (read_part child)) a_bare_expression o ts

  call-row : (r : Read (TreeOf Text)) (x : Result) → after (after r (λ t us. and_others t (let f : Read Forest = Some (end, us) in f))) (λ f us. where_so true (node_of (kind call_expression) f) us) ≡ Some x → r ≡ Some (first_below x.0, x.1)
  call-row None x h = absurd (no_some x h)
  call-row (Some y) x h =
      ap (λ (o : Read (TreeOf Text)). elim o as (λ _. Read (TreeOf Text)) [ None ↦ None | Some z ↦ Some (first_below z.0, z.1) ]) h

  -- a node has the label that it is read by
  tested-label : (l : Label) (b : Bool) (f : Forest) (us : List Token) (x : Result) → where_so b (node_of l f) us ≡ Some x → l ≡ x.0.label
  tested-label l false f us x h = absurd (no_some x h)
  tested-label l true f us x h = ap (λ z. z.label) (same-tree (node_of l f) us x h)

  row-label : (l : Label) (r : Read Forest) (x : Result) → after r (λ f us. where_so (fits l f && stands_as a_bare_expression l f) (node_of l f) us) ≡ Some x → l ≡ x.0.label
  row-label l None x h = absurd (no_some x h)
  row-label l (Some f) x h = tested-label l (fits l f.0 && stands_as a_bare_expression l f.0) f.0 f.1 x h

  node-label : (l : Label) (o : Option Row) (x : Result) → option_and_then (λ row. after (read_row child (read_part child) row ts) (λ f us. where_so (fits l f && stands_as a_bare_expression l f) (node_of l f) us)) o ≡ Some x → l ≡ x.0.label
  node-label l None x h = absurd (no_some x h)
  node-label l (Some row) x h = row-label l (read_row child (read_part child) row ts) x h

  bare-call : (o : Option Label) (x : Result) → is_kind call_expression (Some x.0.label) ≡ true → by_label o ≡ Some x → child a_call ts ≡ Some (first_below x.0, x.1)
  bare-call None x c h = absurd (no_some x h)
  bare-call (Some l) x c h =
      let told : l ≡ kind call_expression = node-label l (row_of a_bare_expression l) x h ∙ label_is call_expression x.0.label c in
      call-row (child a_call ts) x (ap (λ z. by_label (Some z)) (turned told) ∙ h)

-- an operand that is a call
operand-call : (n : ℕ) (ts : List Token) (x : Result) → is_call x.0 ≡ true → operand_at n ts ≡ Some x → inner n a_call ts ≡ Some (first_below (first_below x.0), x.1)
operand-call n ts x c h = by (unary_first ts) refl
  where
    bare : (r : Read (TreeOf Text)) → bare_at n ts ≡ r → after r (λ t us. posts_at n n (expression t) us) ≡ Some x → inner n a_call ts ≡ Some (first_below (first_below x.0), x.1)
    bare None g k = absurd (no_some x k)
    bare (Some y) g k =
        let same = posts-call n n (expression y.0) y.1 x c k in
        let called : is_kind call_expression (Some y.0.label) ≡ true = ap is_call same.0 ∙ c in
        bare-call (inner n) ts (label_first (inner n) a_bare_expression ts) y called g
        ∙ (ap (λ z. Some (first_below (first_below z), y.1)) same.0 ∙ ap (λ z. Some (first_below (first_below x.0), z)) same.1)

    by : (o : Option UnaryOperator) → unary_first ts ≡ o → inner n a_call ts ≡ Some (first_below (first_below x.0), x.1)
    by None q = bare (bare_at n ts) refl (turned (bare-operand n ts q) ∙ h)
    by (Some o) q = absurd (no-call (is_call x.0) c (prefixed-not n o ts x (turned (prefixed-operand n ts o q) ∙ h)))

-- a whole expression that is one
whole-call : (n : ℕ) (ts : List Token) (x : Result) → is_call x.0 ≡ true → after (operand_at n ts) (λ e us. operations_at n any n e us) ≡ Some x → inner n a_call ts ≡ Some (first_below (first_below x.0), x.1)
whole-call n ts x c h = by (operand_at n ts) refl h
  where
    by : (r : Read (TreeOf Text)) → operand_at n ts ≡ r → after r (λ e us. operations_at n any n e us) ≡ Some x → inner n a_call ts ≡ Some (first_below (first_below x.0), x.1)
    by None g k = absurd (no_some x k)
    by (Some y) g k =
        let same = operations-call n any n y.0 y.1 x c k in
        operand-call n ts y (ap is_call same.0 ∙ c) g
        ∙ (ap (λ z. Some (first_below (first_below z), y.1)) same.0 ∙ ap (λ z. Some (first_below (first_below x.0), z)) same.1)

-- A call that is read as an expression, at a number of levels, is read as a call at the same number.
pub expressed-call : (n : ℕ) (ts : List Token) (c : TreeOf Text) (us : List Token) → inner n an_expression ts ≡ Some (expression (branch call_expression (c ∷ [])), us) → inner n a_call ts ≡ Some (c, us)
expressed-call zero ts c us h = absurd (no_some (expression (branch call_expression (c ∷ [])), us) h)
expressed-call (suc n) ts c us h = call_deeper n ts (c, us) (whole-call n ts (expression (branch call_expression (c ∷ [])), us) refl
    (within_read (suc n) (after (operand_at n ts) (λ e us. operations_at n any n e us)) (expression (branch call_expression (c ∷ [])), us) (turned (one-level (suc n) n any ts refl) ∙ h)))
