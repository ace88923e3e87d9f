-- What is read of expressions is said, and its class passes the test.
use Rattle.std.proofs.Common.{◌≡◌, ℕ, zero, suc, Bool, true, false, ◌&&◌, ◌||◌, if◌then◌else◌, List, [], ◌∷◌, Option, Some, None, option_and_then, refl, sym as turned, ap, ◌∙◌, subst, codes, bytes_eq}
use Rattle.wesl_tree_names.specs.Path.{Text}
use Rattle.wesl_tree_syntax.specs.Tree.{kind, unary, binary, end, TreeOf, before, leaf as tree_leaf, literal, parenthesized, call_expression, type_or_identifier, named_component, indexing}
use Rattle.wesl_tree_syntax.specs.declared.expression.UnaryOperator.{UnaryOperator}
use Rattle.wesl_tree_syntax.specs.declared.expression.UnaryOperator.TheVariants as unary_operator
use Rattle.wesl_tree_syntax.specs.declared.expression.BinaryOperator.{BinaryOperator}
use Rattle.wesl_tree_syntax.specs.declared.expression.BinaryOperator.TheVariants as binary_operator
use Rattle.wesl_text_tokens.specs.declared.symbol.Symbol.{Symbol}
use Rattle.wesl_text_tokens.specs.declared.symbol.Symbol.TheVariants as is
use Rattle.wesl_text_tokens.specs.Tokens.{Token, name, number, symbol}
use Rattle.wesl_text_form.specs.Slots.{behind_token}
use Rattle.wesl_text_form.specs.Operators.{Class, primary, prefixed, product, sum, comparison, both as logical_and, either, same_class, class_of, operator_class, is_tight, is_compared, takes_left, takes_right, unary_symbol, binary_symbol}
use Rattle.wesl_text_form.specs.Productions.{Sort, an_expression, a_bare_expression, a_type, a_name, Row, nothing, sym, own, leaf, row_of}
use Rattle.wesl_text_form.specs.Spelling.{Label, Forest, Slots, spells, followed, signed, leaf_slots, first_slots, fits, stands_as}
use Rattle.wesl_text_reading.specs.Leaves.{Read, after, read_leaf}
use Rattle.wesl_text_reading.specs.FirstTokens.{behind_first, begins_sign, binary_of, unary_of, binary_first, unary_first, operand_label}
use Rattle.wesl_text_reading.specs.Reading.{Reader, node_of, behind_child, node, any, expression, class_in, begins_post, taken, next_operator, posts, operand, go_on, whole}
use Rattle.wesl_text_sound.specs.Laws.{AreTokens}
use Rattle.wesl_text_reading.proofs.Filled.{no_some, of_some, no_true, fill, both}
use Rattle.wesl_text_sound.proofs.TakenApart.{with_rest, after_some, token_some, fill_must, fill_keeps, node_fills, must_rest}
use Rattle.wesl_text_sound.proofs.LeavesSaid.{LeafSaid, leaf_said}
use Rattle.wesl_text_sound.proofs.ListsSaid.{NodeSaid, IsSound}
use Rattle.wesl_text_sound.proofs.NodesSaid.{node_said, node_label}
use Rattle.std.proofs.lemmas.Bool.{and_from, and_parts}

-- ---- classes

-- a test that tight expressions pass
abbrev pub TightPass : (Class → Bool) → Type 0
TightPass q = (c : Class) → is_tight c ≡ true → q c ≡ true

tight_compared : TightPass is_compared
tight_compared primary h = refl
tight_compared prefixed h = refl
tight_compared c h = absurd (no_true h)

right_tight : (k : Class) → TightPass (takes_right k)
right_tight sum c h = ap (λ z. z || same_class product c) h
right_tight comparison c h = tight_compared c h
right_tight logical_and c h = ap (λ z. z || same_class comparison c) (tight_compared c h)
right_tight either c h = ap (λ z. z || same_class comparison c) (tight_compared c h)
right_tight k c h = h

-- the label of an operand is that of a primary expression
operand_primary : (ts us : List Token) (l : Label) → operand_label ts us ≡ Some l → class_of (Some l) ≡ primary
operand_primary ts us l h = by ts h where
  told : (k : Label) → class_of (Some k) ≡ primary → Some k ≡ Some l → class_of (Some l) ≡ primary
  told k e g = ap (λ z. class_of (Some z)) (turned (of_some k l g)) ∙ e

  word_label : Bool → Bool → Option Label
  word_label a b = if a then Some (kind literal) else if b then Some (kind call_expression) else Some (kind type_or_identifier)

  worded : (a b : Bool) → word_label a b ≡ Some l → class_of (Some l) ≡ primary
  worded true b g = told (kind literal) refl g
  worded false true g = told (kind call_expression) refl g
  worded false false g = told (kind type_or_identifier) refl g

  enclosed_label : Bool → Option Label
  enclosed_label b = if b then Some (kind parenthesized) else None

  enclosed : (b : Bool) → enclosed_label b ≡ Some l → class_of (Some l) ≡ primary
  enclosed true g = told (kind parenthesized) refl g
  enclosed false g = absurd (no_some l g)

  by : (ts : List Token) → operand_label ts us ≡ Some l → class_of (Some l) ≡ primary
  by (number t ∷ ts) g = told (kind literal) refl g
  by (name t ∷ ts) g = worded (bytes_eq t (codes "true") || bytes_eq t (codes "false")) (begins_sign is.ParenLeft us) g
  by ts g = enclosed (begins_sign is.ParenLeft ts) g

-- ---- the tokens of operators

-- the operator's symbol is the first token
unary_token : (o : UnaryOperator) (ts : List Token) → unary_first ts ≡ Some o → behind_token (symbol (unary_symbol o)) ts ≡ Some (behind_first ts)
unary_token o (symbol s ∷ ts) h = by s h where
  told : (s : Symbol) (p : UnaryOperator) → behind_token (symbol (unary_symbol p)) (symbol s ∷ ts) ≡ Some ts → Some p ≡ Some o → behind_token (symbol (unary_symbol o)) (symbol s ∷ ts) ≡ Some ts
  told s p e g = subst (λ z. behind_token (symbol (unary_symbol z)) (symbol s ∷ ts) ≡ Some ts) (of_some p o g) e

  by : (s : Symbol) → unary_of s ≡ Some o → behind_token (symbol (unary_symbol o)) (symbol s ∷ ts) ≡ Some ts
  by is.Bang g = told is.Bang unary_operator.LogicalNegation refl g
  by is.Minus g = told is.Minus unary_operator.Negation refl g
  by is.Tilde g = told is.Tilde unary_operator.BitwiseComplement refl g
  by is.And g = told is.And unary_operator.AddressOf refl g
  by is.Star g = told is.Star unary_operator.Indirection refl g
  by s g = absurd (no_some o g)
unary_token o ts h = absurd (no_some o h)

binary_token : (o : BinaryOperator) (ts : List Token) → binary_first ts ≡ Some o → behind_token (symbol (binary_symbol o)) ts ≡ Some (behind_first ts)
binary_token o (symbol s ∷ ts) h = by s h where
  told : (s : Symbol) (p : BinaryOperator) → behind_token (symbol (binary_symbol p)) (symbol s ∷ ts) ≡ Some ts → Some p ≡ Some o → behind_token (symbol (binary_symbol o)) (symbol s ∷ ts) ≡ Some ts
  told s p e g = subst (λ z. behind_token (symbol (binary_symbol z)) (symbol s ∷ ts) ≡ Some ts) (of_some p o g) e

  by : (s : Symbol) → binary_of s ≡ Some o → behind_token (symbol (binary_symbol o)) (symbol s ∷ ts) ≡ Some ts
  by is.OrOr g = told is.OrOr binary_operator.ShortCircuitOr refl g
  by is.AndAnd g = told is.AndAnd binary_operator.ShortCircuitAnd refl g
  by is.Plus g = told is.Plus binary_operator.Addition refl g
  by is.Minus g = told is.Minus binary_operator.Subtraction refl g
  by is.Star g = told is.Star binary_operator.Multiplication refl g
  by is.Slash g = told is.Slash binary_operator.Division refl g
  by is.Percent g = told is.Percent binary_operator.Remainder refl g
  by is.EqualEqual g = told is.EqualEqual binary_operator.Equality refl g
  by is.NotEqual g = told is.NotEqual binary_operator.Inequality refl g
  by is.Less g = told is.Less binary_operator.LessThan refl g
  by is.LessEqual g = told is.LessEqual binary_operator.LessThanEqual refl g
  by is.Greater g = told is.Greater binary_operator.GreaterThan refl g
  by is.GreaterEqual g = told is.GreaterEqual binary_operator.GreaterThanEqual refl g
  by is.Or g = told is.Or binary_operator.BitwiseOr refl g
  by is.And g = told is.And binary_operator.BitwiseAnd refl g
  by is.Xor g = told is.Xor binary_operator.BitwiseXor refl g
  by is.ShiftLeft g = told is.ShiftLeft binary_operator.ShiftLeft refl g
  by is.ShiftRight g = told is.ShiftRight binary_operator.ShiftRight refl g
  by s g = absurd (no_some o g)
binary_token o ts h = absurd (no_some o h)

-- an operator that goes on: it comes first, passes the test and takes the expression on its left
operator_parts : (q : Class → Bool) (c : Class) (ts : List Token) (o : BinaryOperator) → next_operator q c ts ≡ Some o → (binary_first ts ≡ Some o) × (q (operator_class o) ≡ true) × (takes_left (operator_class o) c ≡ true)
operator_parts q c ts o h = by (binary_first ts) refl h where
  by : (r : Option BinaryOperator) → binary_first ts ≡ r → option_and_then (taken q c) r ≡ Some o → (binary_first ts ≡ Some o) × (q (operator_class o) ≡ true) × (takes_left (operator_class o) c ≡ true)
  by None e g = absurd (no_some o g)
  by (Some p) e g = passes (q (operator_class p) && takes_left (operator_class p) c) refl g where
    passes : (b : Bool) → (q (operator_class p) && takes_left (operator_class p) c) ≡ b → (if b then Some p else None) ≡ Some o → (binary_first ts ≡ Some o) × (q (operator_class o) ≡ true) × (takes_left (operator_class o) c ≡ true)
    passes false d k = absurd (no_some o k)
    passes true d k =
        let x : (q (operator_class p) ≡ true) × (takes_left (operator_class p) c ≡ true) = and_parts (q (operator_class p)) (takes_left (operator_class p) c) d in
        subst (λ z. (binary_first ts ≡ Some z) × (q (operator_class z) ≡ true) × (takes_left (operator_class z) c ≡ true)) (of_some p o k) (e, x.0, x.1)

-- ---- expressions

-- what was read is said, and its class passes
abbrev pub PassesSaid : (Class → Bool) → List Token → TreeOf Text × List Token → Type 0
PassesSaid q ts x = NodeSaid an_expression ts x × (q (class_in x.0) ≡ true)

-- what a reader of expressions reads is said, and passes
abbrev pub IsSoundOf : ((Class → Bool) → Reader) → Type 0
IsSoundOf r = (q : Class → Bool) → TightPass q → (ts : List Token) (x : TreeOf Text × List Token) → AreTokens ts → r q ts ≡ Some x → PassesSaid q ts x

-- the slots of an expression
abbrev slots_of : TreeOf Text → Slots
slots_of e = first_slots e.label e.children (spells e.children) an_expression

-- an expression whose operands fill its row
made : (l : Label) (c : Forest) (r : Row) (ts us : List Token) → row_of a_bare_expression l ≡ Some r → (fits l c && stands_as a_bare_expression l c) ≡ true → fill ((spells c).row r) ts ≡ Some us → NodeSaid an_expression ts (with_rest (expression (node_of l c)) us)
made l c r ts us e d h = both (first_slots l c (spells c) a_bare_expression) (Some []) ts us us (node_fills a_bare_expression l c r ts us e d h) refl

module _ (child : Sort → Reader) (deeper : (Class → Bool) → Reader) (nodes : (s : Sort) → IsSound (child s) s) (deep : IsSoundOf deeper) where
  abbrev component : TreeOf Text → Label → TreeOf Text
  component e l = expression (node_of (kind named_component) (before e (before (tree_leaf l) end)))

  abbrev indexed : TreeOf Text → TreeOf Text → TreeOf Text
  indexed e i = expression (node_of (kind indexing) (before e (before i end)))

  abbrev operation : BinaryOperator → TreeOf Text → TreeOf Text → TreeOf Text
  operation o l r = expression (node_of (binary o) (before l (before r end)))

  -- `.` and a name behind an expression
  component_said : (e : TreeOf Text) (l : Label) (from ts us : List Token) → NodeSaid an_expression from (with_rest e (symbol is.Period ∷ ts)) → class_in e ≡ primary → LeafSaid a_name end ts (with_rest l us) → NodeSaid an_expression from (with_rest (component e l) us)
  component_said e l from ts us h p f =
      made (kind named_component) (before e (before (tree_leaf l) end)) (own an_expression (sym is.Period (leaf a_name nothing))) from us refl (ap (λ z. same_class primary z && true) p)
      (both (slots_of e) (followed (Some (signed is.Period ∷ [])) (followed (leaf_slots a_name l end) (Some []))) from (symbol is.Period ∷ ts) us h
      (fill_must (symbol is.Period) (followed (leaf_slots a_name l end) (Some [])) (symbol is.Period ∷ ts) ts us refl (both (leaf_slots a_name l end) (Some []) ts us us f refl)))

  -- an index
  indexed_said : (e i : TreeOf Text) (from ts vs us : List Token) → NodeSaid an_expression from (with_rest e (symbol is.BracketLeft ∷ ts)) → class_in e ≡ primary → NodeSaid an_expression ts (with_rest i vs) → behind_token (symbol is.BracketRight) vs ≡ Some us → NodeSaid an_expression from (with_rest (indexed e i) us)
  indexed_said e i from ts vs us h p g k =
      let closed : Slots = followed (Some (signed is.BracketRight ∷ [])) (Some []) in
      made (kind indexing) (before e (before i end)) (own an_expression (sym is.BracketLeft (own an_expression (sym is.BracketRight nothing)))) from us refl (ap (λ z. same_class primary z && true) p)
      (both (slots_of e) (followed (Some (signed is.BracketLeft ∷ [])) (followed (slots_of i) closed)) from (symbol is.BracketLeft ∷ ts) us h
      (fill_must (symbol is.BracketLeft) (followed (slots_of i) closed) (symbol is.BracketLeft ∷ ts) ts us refl (both (slots_of i) closed ts vs us g (fill_must (symbol is.BracketRight) (Some []) vs us us k refl))))

  -- a primary expression from these tokens on
  abbrev Primary : List Token → TreeOf Text × List Token → Type 0
  Primary from x = NodeSaid an_expression from x × (class_in x.0 ≡ primary)

  primary_rest : (from : List Token) (x : TreeOf Text × List Token) → AreTokens from → NodeSaid an_expression from x → AreTokens x.1
  primary_rest from x a h = fill_keeps (slots_of x.0) from x.1 a h

  posts_said : (m : ℕ) (e : TreeOf Text) (from ts : List Token) (x : TreeOf Text × List Token) → AreTokens from → Primary from (with_rest e ts) → posts child deeper m e ts ≡ Some x → Primary from x
  posts_said zero e from ts x a p h = by (begins_post ts) h where
    by : (b : Bool) → (if b then None else Some (e, ts)) ≡ Some x → Primary from x
    by true g = absurd (no_some x g)
    by false g = subst (λ z. Primary from z) (of_some (with_rest e ts) x g) p
  posts_said (suc m) e from (symbol is.Period ∷ ts) x a p h =
      let y : (y : Label × List Token) × (read_leaf a_name ts ≡ Some y) × (posts child deeper m (component e y.0) y.1 ≡ Some x) = after_some (read_leaf a_name ts) (λ l us. posts child deeper m (component e l) us) x h in
      let t : AreTokens (symbol is.Period ∷ ts) = primary_rest from (with_rest e (symbol is.Period ∷ ts)) a p.0 in
      posts_said m (component e y.0.0) from y.0.1 x a (component_said e y.0.0 from ts y.0.1 p.0 p.1 (leaf_said a_name refl end ts y.0 t.1 y.1), refl) y.2
  posts_said (suc m) e from (symbol is.BracketLeft ∷ ts) x a p h =
      let y : (y : TreeOf Text × List Token) × (deeper any ts ≡ Some y) × (option_and_then (λ vs. posts child deeper m (indexed e y.0) vs) (behind_token (symbol is.BracketRight) y.1) ≡ Some x)
      = after_some (deeper any ts) (λ i us. option_and_then (λ vs. posts child deeper m (indexed e i) vs) (behind_token (symbol is.BracketRight) us)) x h in
      let z : (vs : List Token) × (behind_token (symbol is.BracketRight) y.0.1 ≡ Some vs) × (posts child deeper m (indexed e y.0.0) vs ≡ Some x) = token_some (behind_token (symbol is.BracketRight) y.0.1) (λ vs. posts child deeper m (indexed e y.0.0) vs) x y.2 in
      let t : AreTokens (symbol is.BracketLeft ∷ ts) = primary_rest from (with_rest e (symbol is.BracketLeft ∷ ts)) a p.0 in
      posts_said m (indexed e y.0.0) from z.0 x a (indexed_said e y.0.0 from ts y.0.1 z.0 p.0 p.1 (deep any (λ c k. refl) ts y.0 t.1 y.1).0 z.1, refl) z.2
  posts_said (suc m) e from ts x a p h = subst (λ z. Primary from z) (of_some (with_rest e ts) x h) p

  -- an operand that no unary operator begins
  bare_said : (n : ℕ) (ts : List Token) (x : TreeOf Text × List Token) → AreTokens ts → after (node child a_bare_expression ts) (λ t us. posts child deeper n (expression t) us) ≡ Some x → PassesSaid is_tight ts x
  bare_said n ts x a h =
      let y : (y : TreeOf Text × List Token) × (node child a_bare_expression ts ≡ Some y) × (posts child deeper n (expression y.0) y.1 ≡ Some x) = after_some (node child a_bare_expression ts) (λ t us. posts child deeper n (expression t) us) x h in
      let f : NodeSaid a_bare_expression ts y.0 = node_said child nodes a_bare_expression ts y.0 a y.1 in
      let c : class_of (Some y.0.0.label) ≡ primary = operand_primary ts (behind_child child a_type ts) y.0.0.label (node_label child nodes a_bare_expression ts y.0 y.1) in
      let p : Primary ts x = posts_said n (expression y.0.0) ts y.0.1 x a (both (first_slots y.0.0.label y.0.0.children (spells y.0.0.children) a_bare_expression) (Some []) ts y.0.1 y.0.1 f refl, c) y.2 in
      (p.0, ap is_tight p.1)

  operand_said : (n : ℕ) (ts : List Token) (x : TreeOf Text × List Token) → AreTokens ts → operand child deeper n ts ≡ Some x → PassesSaid is_tight ts x
  operand_said n ts x a h = by (unary_first ts) refl h where
    by : (o : Option UnaryOperator) → unary_first ts ≡ o → elim o as (λ _. Read (TreeOf Text)) [
      | None ↦ after (node child a_bare_expression ts) (λ t us. posts child deeper n (expression t) us)
      | Some o ↦ after (deeper is_tight (behind_first ts)) (λ e us. Some (expression (node_of (unary o) (before e end)), us))
    ] ≡ Some x → PassesSaid is_tight ts x
    by None e g = bare_said n ts x a g
    by (Some o) e g =
        let y : (y : TreeOf Text × List Token) × (deeper is_tight (behind_first ts) ≡ Some y) × (Some (with_rest (expression (node_of (unary o) (before y.0 end))) y.1) ≡ Some x) = after_some (deeper is_tight (behind_first ts)) (λ e us. Some (expression (node_of (unary o) (before e end)), us)) x g in
        let k : behind_token (symbol (unary_symbol o)) ts ≡ Some (behind_first ts) = unary_token o ts e in
        let f : PassesSaid is_tight (behind_first ts) y.0 = deep is_tight (λ c d. d) (behind_first ts) y.0 (must_rest (symbol (unary_symbol o)) ts (behind_first ts) a k) y.1 in
        subst (λ z. PassesSaid is_tight ts z) (of_some (with_rest (expression (node_of (unary o) (before y.0.0 end))) y.0.1) x y.2) (
          made (unary o) (before y.0.0 end) (sym (unary_symbol o) (own an_expression nothing)) ts y.0.1 refl (and_from (is_tight (class_in y.0.0)) true f.1 refl)
              (fill_must (symbol (unary_symbol o)) (followed (slots_of y.0.0) (Some [])) ts (behind_first ts) y.0.1 k (both (slots_of y.0.0) (Some []) (behind_first ts) y.0.1 y.0.1 f.0 refl)),
          refl,
        )

  -- an operation
  operation_said : (o : BinaryOperator) (l r : TreeOf Text) (from ts us : List Token) → NodeSaid an_expression from (with_rest l ts) → takes_left (operator_class o) (class_in l) ≡ true → behind_token (symbol (binary_symbol o)) ts ≡ Some (behind_first ts)
      → PassesSaid (takes_right (operator_class o)) (behind_first ts) (with_rest r us) → NodeSaid an_expression from (with_rest (operation o l r) us)
  operation_said o l r from ts us h t k f =
      made (binary o) (before l (before r end)) (own an_expression (sym (binary_symbol o) (own an_expression nothing))) from us refl
      (and_from (takes_left (operator_class o) (class_in l) && takes_right (operator_class o) (class_in r)) true (and_from (takes_left (operator_class o) (class_in l)) (takes_right (operator_class o) (class_in r)) t f.1) refl)
      (both (slots_of l) (followed (Some (signed (binary_symbol o) ∷ [])) (followed (slots_of r) (Some []))) from ts us h
      (fill_must (symbol (binary_symbol o)) (followed (slots_of r) (Some [])) ts (behind_first ts) us k (both (slots_of r) (Some []) (behind_first ts) us us f.0 refl)))

  go_on_said : (q : Class → Bool) (n : ℕ) (l : TreeOf Text) (from ts : List Token) (x : TreeOf Text × List Token) → AreTokens from → PassesSaid q from (with_rest l ts) → go_on child deeper q n l ts ≡ Some x → PassesSaid q from x
  go_on_said q zero l from ts x a p h = by (next_operator q (class_in l) ts) h where
    by : (o : Option BinaryOperator) → elim o as (λ _. Read (TreeOf Text)) [ None ↦ Some (l, ts) | Some o ↦ None ] ≡ Some x → PassesSaid q from x
    by None g = subst (λ z. PassesSaid q from z) (of_some (with_rest l ts) x g) p
    by (Some o) g = absurd (no_some x g)
  go_on_said q (suc n) l from ts x a p h = by (λ r us f g. go_on_said q n r from us x a f g) (next_operator q (class_in l) ts) refl h where
    by : ((r : TreeOf Text) (us : List Token) → PassesSaid q from (with_rest r us) → go_on child deeper q n r us ≡ Some x → PassesSaid q from x) → (o : Option BinaryOperator) → next_operator q (class_in l) ts ≡ o
        → elim o as (λ _. Read (TreeOf Text)) [ None ↦ Some (l, ts) | Some o ↦ after (deeper (takes_right (operator_class o)) (behind_first ts)) (λ r us. go_on child deeper q n (operation o l r) us) ] ≡ Some x → PassesSaid q from x
    by later None e g = subst (λ z. PassesSaid q from z) (of_some (with_rest l ts) x g) p
    by later (Some o) e g =
        let d : (binary_first ts ≡ Some o) × (q (operator_class o) ≡ true) × (takes_left (operator_class o) (class_in l) ≡ true) = operator_parts q (class_in l) ts o e in
        let y : (y : TreeOf Text × List Token) × (deeper (takes_right (operator_class o)) (behind_first ts) ≡ Some y) × (go_on child deeper q n (operation o l y.0) y.1 ≡ Some x) = after_some (deeper (takes_right (operator_class o)) (behind_first ts)) (λ r us. go_on child deeper q n (operation o l r) us) x g in
        let k : behind_token (symbol (binary_symbol o)) ts ≡ Some (behind_first ts) = binary_token o ts d.0 in
        let t : AreTokens (behind_first ts) = must_rest (symbol (binary_symbol o)) ts (behind_first ts) (primary_rest from (with_rest l ts) a p.0) k in
        let f : PassesSaid (takes_right (operator_class o)) (behind_first ts) y.0 = deep (takes_right (operator_class o)) (right_tight (operator_class o)) (behind_first ts) y.0 t y.1 in
        later (operation o l y.0.0) y.0.1 (operation_said o l y.0.0 from ts y.0.1 p.0 d.2 k f, d.1) y.2

  pub whole_said : (q : Class → Bool) → TightPass q → (n : ℕ) (ts : List Token) (x : TreeOf Text × List Token) → AreTokens ts → whole child deeper q n ts ≡ Some x → PassesSaid q ts x
  whole_said q passes n ts x a h =
      let y : (y : TreeOf Text × List Token) × (operand child deeper n ts ≡ Some y) × (go_on child deeper q n y.0 y.1 ≡ Some x) = after_some (operand child deeper n ts) (λ l us. go_on child deeper q n l us) x h in
      let f : PassesSaid is_tight ts y.0 = operand_said n ts y.0 a y.1 in
      go_on_said q n y.0.0 ts y.0.1 x a (f.0, passes (class_in y.0.0) f.1) y.2
