-- What is read of expressions and of attributes at a number of levels is read at one more.
use Rattle.std.proofs.Common.{◌≡◌, ◌⊎◌, ◌≤◌, ℕ, zero, suc, Bool, true, false, not, ◌&&◌, ◌||◌, if◌then◌else◌, nat_le, List, [], ◌∷◌, length, Option, Some, None, option_and_then, refl, sym as turned, inl, inr, ap, ◌∙◌, codes, bytes_eq, arith}
use Rattle.std.proofs.lemmas.Bool.{and_parts, le-leb, leb-true}
use Rattle.wesl_tree_names.specs.Path.{Text}
use Rattle.wesl_tree_syntax.specs.Tree.{kind, at, unary, binary, end, TreeOf, before, leaf as tree_leaf, branch, present, absent, literal, call_expression, named_component, indexing, type_or_identifier}
use Rattle.wesl_tree_syntax.specs.declared.expression.UnaryOperator.{UnaryOperator}
use Rattle.wesl_tree_syntax.specs.declared.expression.BinaryOperator.{BinaryOperator}
use Rattle.wesl_text_tokens.specs.declared.symbol.Symbol.TheVariants as is
use Rattle.wesl_text_tokens.specs.Tokens.{Token, name, symbol, open_list, close_list}
use Rattle.wesl_text_form.specs.Slots.{behind_token, behind_if_there}
use Rattle.wesl_text_form.specs.Operators.{Class, operator_class, is_tight, takes_right, unary_symbol, binary_symbol}
use Rattle.wesl_text_form.specs.Productions.{Sort, an_expression, a_bare_expression, a_call, a_type, an_argument, an_attribute, a_bare_attribute, a_name, a_path, Row, nothing, sym, may_sym, says, opens, closes, own, leaf, commas, optional, unended, row_of, rows_of_bare_expression, rows_of_bare_attribute}
use Rattle.wesl_text_form.specs.Spelling.{Label, Forest, fits, stands_as}
use Rattle.wesl_text_form.specs.Says.{levels}
use Rattle.wesl_text_reading.specs.Leaves.{Read, after, where_so, read_leaf}
use Rattle.wesl_text_reading.specs.FirstTokens.{has_attributes, begins_sort, begins_sign, behind_first, unary_first, operand_label}
use Rattle.wesl_text_reading.specs.Reading.{Reader, node_of, and_others, all_of, separate_of, attributes_first, behind_attributes, behind_child, begins_child, begins_row, label_first, read_row, read_part, read_node, node, any, expression, class_in, next_operator, posts, operand, go_on, whole, ranked, at_level, reading}
use Rattle.wesl_text_reading.proofs.Filled.{no_some, of_some, no_true}
use Rattle.wesl_text_reading.proofs.Takes.{at_rows}
use Rattle.wesl_text_reading.proofs.Operands.{type_label, call_label, argument_label}
use Rattle.wesl_text_reading.proofs.Runs.{attribute_is}

-- ---- what goes on behind what is read

after_more : {A B : Type 0} (r q : Read A) (f g : A → List Token → Read B) (y : B × List Token) → ((x : A × List Token) → r ≡ Some x → q ≡ Some x) → ((x : A × List Token) → f x.0 x.1 ≡ Some y → g x.0 x.1 ≡ Some y) → after r f ≡ Some y → after q g ≡ Some y
after_more {A} {B} r q f g y more behind h = by r refl h where
  by : (o : Read A) → r ≡ o → after o f ≡ Some y → after q g ≡ Some y
  by None e k = absurd (no_some y k)
  by (Some x) e k = ap (λ z. after z g) (more x e) ∙ behind x k

token_more : {B : Type 0} (o : Option (List Token)) (f g : List Token → Read B) (y : B × List Token) → ((vs : List Token) → f vs ≡ Some y → g vs ≡ Some y) → option_and_then f o ≡ Some y → option_and_then g o ≡ Some y
token_more None f g y behind h = absurd (no_some y h)
token_more (Some vs) f g y behind h = behind vs h

others_more : (t : TreeOf Text) (r q : Read Forest) (y : Forest × List Token) → ((x : Forest × List Token) → r ≡ Some x → q ≡ Some x) → and_others t r ≡ Some y → and_others t q ≡ Some y
others_more t r q y more h = after_more r q (λ f us. Some (before t f, us)) (λ f us. Some (before t f, us)) y more (λ x k. k) h

-- ---- rows

-- whether what begins a part is told by tokens alone
abbrev is_told : Row → Bool
is_told (own s row) = false
is_told (unended s row) = false
is_told row = true

-- rows of parts whose nodes are of these sorts
abbrev is_of : (Sort → Bool) → Row → Bool
is_of p nothing = true
is_of p (sym s row) = is_of p row
is_of p (may_sym s row) = is_of p row
is_of p (says w row) = is_of p row
is_of p (opens row) = is_of p row
is_of p (closes row) = is_of p row
is_of p (own s row) = p s && is_of p row
is_of p (leaf f row) = is_of p row
is_of p (commas k s row) = (not (has_attributes s) && p s) && is_of p row
is_of p (optional ins row) = (is_told ins && is_of p ins) && is_of p row
is_of p row = false

-- what `a` reads of these sorts, `b` reads
module _ (a b : Sort → Reader) (p : Sort → Bool) (more : (s : Sort) → p s ≡ true → (ts : List Token) (x : TreeOf Text × List Token) → a s ts ≡ Some x → b s ts ≡ Some x) where
  begins_same : (s : Sort) (ts : List Token) → not (has_attributes s) ≡ true → begins_child b s ts ≡ begins_child a s ts
  begins_same s ts h = by (has_attributes s) h where
    by : (z : Bool) → not z ≡ true → (if z then begins_sort s (behind_attributes b ts) else begins_sort s ts) ≡ (if z then begins_sort s (behind_attributes a ts) else begins_sort s ts)
    by true k = absurd (no_true k)
    by false k = refl

  told_same : (ins : Row) (ts : List Token) → is_told ins ≡ true → begins_row b ins ts ≡ begins_row a ins ts
  told_same (own s row) ts h = absurd (no_true h)
  told_same (unended s row) ts h = absurd (no_true h)
  told_same (sym is.Comma row) ts h = refl
  told_same (sym s row) ts h = refl
  told_same (leaf (a_path slashes) row) ts h = refl
  told_same (leaf f row) ts h = refl
  told_same row ts h = refl

  abbrev listed : (Sort → Reader) → Sort → ℕ → List Token → Read Forest
  listed c s k us = elim (begins_sign is.Comma us) as (λ _. Read Forest) [ false ↦ Some (end, us) | true ↦ separate_of (begins_child c s) (c s) k (behind_first us) ]

  abbrev list_of : (Sort → Reader) → Sort → ℕ → List Token → Bool → Read Forest
  list_of c s k ts z = elim z as (λ _. Read Forest) [ false ↦ Some (end, ts) | true ↦ after (c s ts) (λ t us. and_others t (listed c s k us)) ]

  separate_more : (s : Sort) → not (has_attributes s) ≡ true → p s ≡ true → (k : ℕ) (ts : List Token) (x : Forest × List Token) → separate_of (begins_child a s) (a s) k ts ≡ Some x → separate_of (begins_child b s) (b s) k ts ≡ Some x
  separate_more s n o zero ts x h = ap (λ z. if z then None else Some (end, ts)) (begins_same s ts n) ∙ h
  separate_more s n o (suc k) ts x h = ap (λ z. list_of b s k ts z) (begins_same s ts n) ∙ by (λ us y g. separate_more s n o k us y g) (begins_child a s ts) h where
    behind : ((us : List Token) (y : Forest × List Token) → separate_of (begins_child a s) (a s) k us ≡ Some y → separate_of (begins_child b s) (b s) k us ≡ Some y) → (z : Bool) (us : List Token) (y : Forest × List Token) → elim z as (λ _. Read Forest) [ false ↦ Some (end, us) | true ↦ separate_of (begins_child a s) (a s) k (behind_first us) ] ≡ Some y
        → elim z as (λ _. Read Forest) [ false ↦ Some (end, us) | true ↦ separate_of (begins_child b s) (b s) k (behind_first us) ] ≡ Some y
    behind later false us y g = g
    behind later true us y g = later (behind_first us) y g

    by : ((us : List Token) (y : Forest × List Token) → separate_of (begins_child a s) (a s) k us ≡ Some y → separate_of (begins_child b s) (b s) k us ≡ Some y) → (z : Bool) → list_of a s k ts z ≡ Some x → list_of b s k ts z ≡ Some x
    by later false g = g
    by later true g =
        after_more (a s ts) (b s ts) (λ t us. and_others t (listed a s k us)) (λ t us. and_others t (listed b s k us)) x (λ y e. more s o ts y e)
        (λ y e. others_more y.0 (listed a s k y.1) (listed b s k y.1) x (λ w q. behind later (begins_sign is.Comma y.1) y.1 w q) e) g

  module _ (pa pb : Sort → Reader) where
    row_more : (r : Row) → is_of p r ≡ true → (ts : List Token) (x : Forest × List Token) → read_row a pa r ts ≡ Some x → read_row b pb r ts ≡ Some x
    row_more nothing o ts x h = h
    row_more (sym s row) o ts x h = token_more (behind_token (symbol s) ts) (read_row a pa row) (read_row b pb row) x (λ vs g. row_more row o vs x g) h
    row_more (may_sym s row) o ts x h = row_more row o (behind_if_there (symbol s) ts) x h
    row_more (says w row) o ts x h = token_more (behind_token (name w) ts) (read_row a pa row) (read_row b pb row) x (λ vs g. row_more row o vs x g) h
    row_more (opens row) o ts x h = token_more (behind_token open_list ts) (read_row a pa row) (read_row b pb row) x (λ vs g. row_more row o vs x g) h
    row_more (closes row) o ts x h = token_more (behind_token close_list ts) (read_row a pa row) (read_row b pb row) x (λ vs g. row_more row o vs x g) h
    row_more (own s row) o ts x h =
        let e : (p s ≡ true) × (is_of p row ≡ true) = and_parts (p s) (is_of p row) o in
        after_more (a s ts) (b s ts) (λ t us. and_others t (read_row a pa row us)) (λ t us. and_others t (read_row b pb row us)) x (λ y g. more s e.0 ts y g)
        (λ y g. others_more y.0 (read_row a pa row y.1) (read_row b pb row y.1) x (λ z q. row_more row e.1 y.1 z q) g) h
    row_more (leaf f row) o ts x h =
        after_more (read_leaf f ts) (read_leaf f ts) (λ l us. and_others (tree_leaf l) (read_row a pa row us)) (λ l us. and_others (tree_leaf l) (read_row b pb row us)) x (λ y g. g)
        (λ y g. others_more (tree_leaf y.0) (read_row a pa row y.1) (read_row b pb row y.1) x (λ z q. row_more row o y.1 z q) g) h
    row_more (commas k s row) o ts x h =
        let e : ((not (has_attributes s) && p s) ≡ true) × (is_of p row ≡ true) = and_parts (not (has_attributes s) && p s) (is_of p row) o in
        let d : (not (has_attributes s) ≡ true) × (p s ≡ true) = and_parts (not (has_attributes s)) (p s) e.0 in
        after_more (separate_of (begins_child a s) (a s) (length ts) ts) (separate_of (begins_child b s) (b s) (length ts) ts) (λ f us. and_others (node_of (kind k) f) (read_row a pa row us)) (λ f us. and_others (node_of (kind k) f) (read_row b pb row us)) x
        (λ y g. separate_more s d.0 d.1 (length ts) ts y g) (λ y g. others_more (node_of (kind k) y.0) (read_row a pa row y.1) (read_row b pb row y.1) x (λ z q. row_more row e.1 y.1 z q) g) h
    row_more (optional ins row) o ts x h =
        let e : ((is_told ins && is_of p ins) ≡ true) × (is_of p row ≡ true) = and_parts (is_told ins && is_of p ins) (is_of p row) o in
        let d : (is_told ins ≡ true) × (is_of p ins ≡ true) = and_parts (is_told ins) (is_of p ins) e.0 in
        ap (λ z. choice b pb z) (told_same ins ts d.0) ∙ by (λ us y g. row_more ins d.1 us y g) (λ us y g. row_more row e.1 us y g) (begins_row a ins ts) h where
          choice : (Sort → Reader) → (Sort → Reader) → Bool → Read Forest
          choice c pc z = elim z as (λ _. Read Forest) [
            | false ↦ and_others (branch absent []) (read_row c pc row ts)
            | true ↦ after (read_row c pc ins ts) (λ f us. and_others (node_of (kind present) f) (read_row c pc row us))
          ]

          by : ((us : List Token) (y : Forest × List Token) → read_row a pa ins us ≡ Some y → read_row b pb ins us ≡ Some y) → ((us : List Token) (y : Forest × List Token) → read_row a pa row us ≡ Some y → read_row b pb row us ≡ Some y)
              → (z : Bool) → choice a pa z ≡ Some x → choice b pb z ≡ Some x
          by below later false g = others_more (branch absent []) (read_row a pa row ts) (read_row b pb row ts) x (λ y q. later ts y q) g
          by below later true g =
              after_more (read_row a pa ins ts) (read_row b pb ins ts) (λ f us. and_others (node_of (kind present) f) (read_row a pa row us)) (λ f us. and_others (node_of (kind present) f) (read_row b pb row us)) x (λ y q. below ts y q)
              (λ y q. others_more (node_of (kind present) y.0) (read_row a pa row y.1) (read_row b pb row y.1) x (λ w k. later y.1 w k) q) g
    row_more r o ts x h = absurd (no_true o)

  -- a node, where both find its label
  node_more : (s : Sort) → ((l : Label) (r : Row) → row_of s l ≡ Some r → is_of p r ≡ true) → (ts : List Token) → label_first b s ts ≡ label_first a s ts → (x : TreeOf Text × List Token) → node a s ts ≡ Some x → node b s ts ≡ Some x
  node_more s rows ts e x h = ap (λ z. read_node b (read_row b (read_part b)) s z ts) e ∙ by (label_first a s ts) h where
    by : (o : Option Label) → read_node a (read_row a (read_part a)) s o ts ≡ Some x → read_node b (read_row b (read_part b)) s o ts ≡ Some x
    by None g = g
    by (Some l) g = with_row (row_of s l) refl g where
      made : Forest → List Token → Read (TreeOf Text)
      made f us = where_so (fits l f && stands_as s l f) (node_of l f) us

      with_row : (o : Option Row) → row_of s l ≡ o → option_and_then (λ row. after (read_row a (read_part a) row ts) (λ f us. where_so (fits l f && stands_as s l f) (node_of l f) us)) o ≡ Some x
          → option_and_then (λ row. after (read_row b (read_part b) row ts) (λ f us. where_so (fits l f && stands_as s l f) (node_of l f) us)) o ≡ Some x
      with_row None d k = absurd (no_some x k)
      with_row (Some r) d k =
          after_more (read_row a (read_part a) r ts) (read_row b (read_part b) r ts) (λ f us. where_so (fits l f && stands_as s l f) (node_of l f) us) (λ f us. where_so (fits l f && stands_as s l f) (node_of l f) us) x
          (λ y q. row_more (read_part a) (read_part b) r (rows l r d) ts y q) (λ y q. q) k

-- ---- the loops of expressions

module _ (a b : Sort → Reader) (da db : (Class → Bool) → Reader) (operands : (ts : List Token) (x : TreeOf Text × List Token) → node a a_bare_expression ts ≡ Some x → node b a_bare_expression ts ≡ Some x)
    (deep : (q : Class → Bool) (ts : List Token) (x : TreeOf Text × List Token) → da q ts ≡ Some x → db q ts ≡ Some x) where
  abbrev Result : Type 0
  Result = TreeOf Text × List Token

  abbrev component : TreeOf Text → Label → TreeOf Text
  component e l = expression (node_of (kind named_component) (before e (before (tree_leaf l) end)))

  abbrev indexed : TreeOf Text → TreeOf Text → TreeOf Text
  indexed e i = expression (node_of (kind indexing) (before e (before i end)))

  posts_more : (m : ℕ) (e : TreeOf Text) (ts : List Token) (x : Result) → posts a da m e ts ≡ Some x → posts b db (suc m) e ts ≡ Some x
  posts_more zero e [] x h = h
  posts_more zero e (symbol is.Period ∷ ts) x h = absurd (no_some x h)
  posts_more zero e (symbol is.BracketLeft ∷ ts) x h = absurd (no_some x h)
  posts_more zero e (t ∷ ts) x h = h
  posts_more (suc m) e (symbol is.Period ∷ ts) x h =
      after_more (read_leaf a_name ts) (read_leaf a_name ts) (λ l us. posts a da m (component e l) us) (λ l us. posts b db (suc m) (component e l) us) x (λ y g. g) (λ y g. posts_more m (component e y.0) y.1 x g) h
  posts_more (suc m) e (symbol is.BracketLeft ∷ ts) x h =
      after_more (da any ts) (db any ts) (λ i us. option_and_then (λ vs. posts a da m (indexed e i) vs) (behind_token (symbol is.BracketRight) us)) (λ i us. option_and_then (λ vs. posts b db (suc m) (indexed e i) vs) (behind_token (symbol is.BracketRight) us)) x
      (λ y g. deep any ts y g) (λ y g. token_more (behind_token (symbol is.BracketRight) y.1) (λ vs. posts a da m (indexed e y.0) vs) (λ vs. posts b db (suc m) (indexed e y.0) vs) x (λ vs k. posts_more m (indexed e y.0) vs x k) g) h
  posts_more (suc m) e ts x h = h

  operand_more : (n : ℕ) (ts : List Token) (x : Result) → operand a da n ts ≡ Some x → operand b db (suc n) ts ≡ Some x
  operand_more n ts x h = by (unary_first ts) h where
    by : (o : Option UnaryOperator) → elim o as (λ _. Read (TreeOf Text)) [
      | None ↦ after (node a a_bare_expression ts) (λ t us. posts a da n (expression t) us)
      | Some o ↦ after (da is_tight (behind_first ts)) (λ e us. Some (expression (node_of (unary o) (before e end)), us))
    ] ≡ Some x → elim o as (λ _. Read (TreeOf Text)) [
      | None ↦ after (node b a_bare_expression ts) (λ t us. posts b db (suc n) (expression t) us)
      | Some o ↦ after (db is_tight (behind_first ts)) (λ e us. Some (expression (node_of (unary o) (before e end)), us))
    ] ≡ Some x
    by None g = after_more (node a a_bare_expression ts) (node b a_bare_expression ts) (λ t us. posts a da n (expression t) us) (λ t us. posts b db (suc n) (expression t) us) x (λ y k. operands ts y k) (λ y k. posts_more n (expression y.0) y.1 x k) g
    by (Some o) g =
        after_more (da is_tight (behind_first ts)) (db is_tight (behind_first ts)) (λ e us. Some (expression (node_of (unary o) (before e end)), us)) (λ e us. Some (expression (node_of (unary o) (before e end)), us)) x (λ y k. deep is_tight (behind_first ts) y k) (λ y k. k) g

  abbrev operation : BinaryOperator → TreeOf Text → TreeOf Text → TreeOf Text
  operation o l r = expression (node_of (binary o) (before l (before r end)))

  go_on_more : (q : Class → Bool) (n : ℕ) (l : TreeOf Text) (ts : List Token) (x : Result) → go_on a da q n l ts ≡ Some x → go_on b db q (suc n) l ts ≡ Some x
  go_on_more q zero l ts x h = by (next_operator q (class_in l) ts) h where
    by : (o : Option BinaryOperator) → elim o as (λ _. Read (TreeOf Text)) [ None ↦ Some (l, ts) | Some o ↦ None ] ≡ Some x
        → elim o as (λ _. Read (TreeOf Text)) [ None ↦ Some (l, ts) | Some o ↦ after (db (takes_right (operator_class o)) (behind_first ts)) (λ r us. go_on b db q zero (operation o l r) us) ] ≡ Some x
    by None g = g
    by (Some o) g = absurd (no_some x g)
  go_on_more q (suc n) l ts x h = by (λ r us y g. go_on_more q n r us y g) (next_operator q (class_in l) ts) h where
    by : ((r : TreeOf Text) (us : List Token) (y : Result) → go_on a da q n r us ≡ Some y → go_on b db q (suc n) r us ≡ Some y) → (o : Option BinaryOperator) → elim o as (λ _. Read (TreeOf Text)) [ None ↦ Some (l, ts) | Some o ↦ after (da (takes_right (operator_class o)) (behind_first ts)) (λ r us. go_on a da q n (operation o l r) us) ] ≡ Some x
        → elim o as (λ _. Read (TreeOf Text)) [ None ↦ Some (l, ts) | Some o ↦ after (db (takes_right (operator_class o)) (behind_first ts)) (λ r us. go_on b db q (suc n) (operation o l r) us) ] ≡ Some x
    by later None g = g
    by later (Some o) g =
        after_more (da (takes_right (operator_class o)) (behind_first ts)) (db (takes_right (operator_class o)) (behind_first ts)) (λ r us. go_on a da q n (operation o l r) us) (λ r us. go_on b db q (suc n) (operation o l r) us) x
        (λ y k. deep (takes_right (operator_class o)) (behind_first ts) y k) (λ y k. later (operation o l y.0) y.1 x k) g

  whole_more : (q : Class → Bool) (n : ℕ) (ts : List Token) (x : Result) → whole a da q n ts ≡ Some x → whole b db q (suc n) ts ≡ Some x
  whole_more q n ts x h = after_more (operand a da n ts) (operand b db (suc n) ts) (λ l us. go_on a da q n l us) (λ l us. go_on b db q (suc n) l us) x (λ y k. operand_more n ts y k) (λ y k. go_on_more q n y.0 y.1 x k) h

-- ---- the sorts of nodes in expressions

abbrev has_expressions : Sort → Bool
has_expressions an_expression = true
has_expressions _ = false

abbrev has_arguments : Sort → Bool
has_arguments an_argument = true
has_arguments _ = false

abbrev has_callee : Sort → Bool
has_callee an_expression = true
has_callee a_type = true
has_callee _ = false

abbrev has_operands : Sort → Bool
has_operands an_expression = true
has_operands a_type = true
has_operands a_call = true
has_operands _ = false

abbrev has_one_attribute : Sort → Bool
has_one_attribute a_bare_attribute = true
has_one_attribute _ = false

bare_expression_rows : (l : Label) (r : Row) → row_of a_bare_expression l ≡ Some r → is_of has_operands r ≡ true
bare_expression_rows (unary o) r h = ap (is_of has_operands) (of_some r (sym (unary_symbol o) (own an_expression nothing)) (turned h))
bare_expression_rows (binary o) r h = ap (is_of has_operands) (of_some r (own an_expression (sym (binary_symbol o) (own an_expression nothing))) (turned h))
bare_expression_rows (kind k) r h = at_rows (is_of has_operands) rows_of_bare_expression k r refl h
bare_expression_rows (at k zero zero) r h = absurd (no_some r h)
bare_expression_rows (at k zero (suc f)) r h = absurd (no_some r h)
bare_expression_rows (at k (suc s) f) r h = absurd (no_some r h)
bare_expression_rows l r h = absurd (no_some r h)

bare_attribute_rows : (l : Label) (r : Row) → row_of a_bare_attribute l ≡ Some r → is_of has_expressions r ≡ true
bare_attribute_rows (kind k) r h = at_rows (is_of has_expressions) rows_of_bare_attribute k r refl h
bare_attribute_rows (at k zero zero) r h = absurd (no_some r h)
bare_attribute_rows (at k zero (suc f)) r h = absurd (no_some r h)
bare_attribute_rows (at k (suc s) f) r h = absurd (no_some r h)
bare_attribute_rows l r h = absurd (no_some r h)

module _ (n : ℕ) (expressions : (q : Class → Bool) (ts : List Token) (x : TreeOf Text × List Token) → at_level n q an_expression ts ≡ Some x → at_level (suc n) q an_expression ts ≡ Some x) where
  -- what reads nodes up to a rank, at a number of levels and at one more
  abbrev low : ℕ → Sort → Reader
  low k s ts = ranked (at_level n any) k s ts

  abbrev high : ℕ → Sort → Reader
  high k s ts = ranked (at_level (suc n) any) k s ts

  arguments_more : (ts : List Token) (x : TreeOf Text × List Token) → node (low 0) an_argument ts ≡ Some x → node (high 0) an_argument ts ≡ Some x
  arguments_more ts x h = node_more (low 0) (high 0) has_expressions more an_argument (λ l r e. ap (is_of has_expressions) (turned (argument_label l r e).1)) ts refl x h where
    more : (s : Sort) → has_expressions s ≡ true → (ts : List Token) (x : TreeOf Text × List Token) → low 0 s ts ≡ Some x → high 0 s ts ≡ Some x
    more an_expression e ts x g = expressions any ts x g
    more s e ts x g = absurd (no_true e)

  types_more : (ts : List Token) (x : TreeOf Text × List Token) → node (low 1) a_type ts ≡ Some x → node (high 1) a_type ts ≡ Some x
  types_more ts x h = node_more (low 1) (high 1) has_arguments more a_type (λ l r e. ap (is_of has_arguments) (turned (type_label l r e).1)) ts refl x h where
    more : (s : Sort) → has_arguments s ≡ true → (ts : List Token) (x : TreeOf Text × List Token) → low 1 s ts ≡ Some x → high 1 s ts ≡ Some x
    more an_argument e ts x g = arguments_more ts x g
    more s e ts x g = absurd (no_true e)

  calls_more : (ts : List Token) (x : TreeOf Text × List Token) → node (low 2) a_call ts ≡ Some x → node (high 2) a_call ts ≡ Some x
  calls_more ts x h = node_more (low 2) (high 2) has_callee more a_call (λ l r e. ap (is_of has_callee) (turned (call_label l r e).1)) ts refl x h where
    more : (s : Sort) → has_callee s ≡ true → (ts : List Token) (x : TreeOf Text × List Token) → low 2 s ts ≡ Some x → high 2 s ts ≡ Some x
    more an_expression e ts x g = expressions any ts x g
    more a_type e ts x g = types_more ts x g
    more s e ts x g = absurd (no_true e)

  -- an operand: its label is told by what stands behind the type that it begins with
  operands_more : (ts : List Token) (x : TreeOf Text × List Token) → node (low 6) a_bare_expression ts ≡ Some x → node (high 6) a_bare_expression ts ≡ Some x
  operands_more ts x h = by (low 6 a_type ts) refl where
    more : (s : Sort) → has_operands s ≡ true → (ts : List Token) (x : TreeOf Text × List Token) → low 6 s ts ≡ Some x → high 6 s ts ≡ Some x
    more an_expression e ts x g = expressions any ts x g
    more a_type e ts x g = types_more ts x g
    more a_call e ts x g = calls_more ts x g
    more s e ts x g = absurd (no_true e)

    same_label : label_first (high 6) a_bare_expression ts ≡ label_first (low 6) a_bare_expression ts → node (high 6) a_bare_expression ts ≡ Some x
    same_label e = node_more (low 6) (high 6) has_operands more a_bare_expression bare_expression_rows ts e x h

    -- no node is read as a type where no type is read
    no_type : low 6 a_type ts ≡ None → read_node (low 6) (read_row (low 6) (read_part (low 6))) a_bare_expression (Some (kind type_or_identifier)) ts ≡ Some x → ⊥
    no_type e g =
        no_some x (turned (ap (λ z. after (after z (λ t us. and_others t (read_row (low 6) (read_part (low 6)) nothing us))) (λ f us. where_so (fits (kind type_or_identifier) f && stands_as a_bare_expression (kind type_or_identifier) f) (node_of (kind type_or_identifier) f) us)) e) ∙ g)

    told_alone : (us : List Token) → ts ≡ us → ((vs ws : List Token) → operand_label us vs ≡ operand_label us ws) → label_first (high 6) a_bare_expression ts ≡ label_first (low 6) a_bare_expression ts
    told_alone us q same =
        let vs : List Token = behind_child (high 6) a_type ts in
        let ws : List Token = behind_child (low 6) a_type ts in
        ap (λ z. operand_label z vs) q ∙ (same vs ws ∙ turned (ap (λ z. operand_label z ws) q))

    by_first : (us : List Token) → ts ≡ us → low 6 a_type ts ≡ None → node (high 6) a_bare_expression ts ≡ Some x
    by_first (name t ∷ us) q e = with_word (bytes_eq t (codes "true") || bytes_eq t (codes "false")) refl where
      with_word : (z : Bool) → (bytes_eq t (codes "true") || bytes_eq t (codes "false")) ≡ z → node (high 6) a_bare_expression ts ≡ Some x
      with_word true d = same_label (literal_label (behind_child (high 6) a_type ts) ∙ turned (literal_label (behind_child (low 6) a_type ts))) where
        literal_label : (vs : List Token) → operand_label ts vs ≡ Some (kind literal)
        literal_label vs = ap (λ z. operand_label z vs) q ∙ ap (λ z. if z then Some (kind literal) else if begins_sign is.ParenLeft vs then Some (kind call_expression) else Some (kind type_or_identifier)) d
      with_word false d = absurd (no_type e (turned (ap (λ z. read_node (low 6) (read_row (low 6) (read_part (low 6))) a_bare_expression z ts) type_label_none) ∙ h)) where
        type_label_none : label_first (low 6) a_bare_expression ts ≡ Some (kind type_or_identifier)
        type_label_none =
            ap (λ z. operand_label ts (elim z as (λ _. List Token) [ None ↦ [] | Some y ↦ y.1 ])) e
            ∙ (ap (λ z. operand_label z []) q ∙ ap (λ z. if z then Some (kind literal) else if begins_sign is.ParenLeft [] then Some (kind call_expression) else Some (kind type_or_identifier)) d)
    by_first [] q e = same_label (told_alone [] q (λ vs ws. refl))
    by_first (u ∷ us) q e = same_label (told_alone (u ∷ us) q (λ vs ws. refl))

    by : (o : Read (TreeOf Text)) → low 6 a_type ts ≡ o → node (high 6) a_bare_expression ts ≡ Some x
    by (Some y) e = same_label (ap (λ z. operand_label ts (elim z as (λ _. List Token) [ None ↦ [] | Some w ↦ w.1 ])) (types_more ts y e ∙ turned e))
    by None e = by_first ts refl e

  bare_attributes_more : (ts : List Token) (x : TreeOf Text × List Token) → node (low 0) a_bare_attribute ts ≡ Some x → node (high 0) a_bare_attribute ts ≡ Some x
  bare_attributes_more ts x h = node_more (low 0) (high 0) has_expressions more a_bare_attribute bare_attribute_rows ts refl x h where
    more : (s : Sort) → has_expressions s ≡ true → (ts : List Token) (x : TreeOf Text × List Token) → low 0 s ts ≡ Some x → high 0 s ts ≡ Some x
    more an_expression e ts x g = expressions any ts x g
    more s e ts x g = absurd (no_true e)

  attributes_more : (ts : List Token) (x : TreeOf Text × List Token) → node (low 1) an_attribute ts ≡ Some x → node (high 1) an_attribute ts ≡ Some x
  attributes_more ts x h = node_more (low 1) (high 1) has_one_attribute more an_attribute (λ l r e. ap (is_of has_one_attribute) (turned (attribute_is l r e).1)) ts refl x h where
    more : (s : Sort) → has_one_attribute s ≡ true → (ts : List Token) (x : TreeOf Text × List Token) → low 1 s ts ≡ Some x → high 1 s ts ≡ Some x
    more a_bare_attribute e ts x g = bare_attributes_more ts x g
    more s e ts x g = absurd (no_true e)

-- ---- all levels

-- what has at most so many levels has at most one more
more_levels : (k n : ℕ) (t : TreeOf Text) (us : List Token) (x : TreeOf Text × List Token) → where_so (nat_le k (suc n)) t us ≡ Some x → where_so (nat_le k (suc (suc n))) t us ≡ Some x
more_levels k n t us x h = by (nat_le k (suc n)) refl h where
  by : (b : Bool) → nat_le k (suc n) ≡ b → where_so b t us ≡ Some x → where_so (nat_le k (suc (suc n))) t us ≡ Some x
  by false e g = absurd (no_some x g)
  by true e g = let le : k ≤ suc n = leb-true k (suc n) e in ap (λ b. where_so b t us) (le-leb k (suc (suc n)) (omega (arith, le))) ∙ g

expressions_more : (n : ℕ) (q : Class → Bool) (ts : List Token) (x : TreeOf Text × List Token) → at_level n q an_expression ts ≡ Some x → at_level (suc n) q an_expression ts ≡ Some x
expressions_more zero q ts x h = absurd (no_some x h)
expressions_more (suc n) q ts x h =
    after_more (whole (ranked (at_level n any) 6) (λ r us. at_level n r an_expression us) q n ts) (whole (ranked (at_level (suc n) any) 6) (λ r us. at_level (suc n) r an_expression us) q (suc n) ts)
    (λ t us. where_so (nat_le (levels (before t end)) (suc n)) t us) (λ t us. where_so (nat_le (levels (before t end)) (suc (suc n))) t us) x
    (λ y k. whole_more (ranked (at_level n any) 6) (ranked (at_level (suc n) any) 6) (λ r us. at_level n r an_expression us) (λ r us. at_level (suc n) r an_expression us) (operands_more n (expressions_more n)) (expressions_more n) q n ts y k)
    (λ y k. more_levels (levels (before y.0 end)) n y.0 y.1 x k) h

one_attribute_more : (n : ℕ) (ts : List Token) (x : TreeOf Text × List Token) → reading n an_attribute ts ≡ Some x → reading (suc n) an_attribute ts ≡ Some x
one_attribute_more n ts x h = attributes_more n (expressions_more n) ts x h

-- a call is the same one level further down
pub call_deeper : (n : ℕ) (ts : List Token) (x : TreeOf Text × List Token) → reading n a_call ts ≡ Some x → reading (suc n) a_call ts ≡ Some x
call_deeper n ts x h = calls_more n (expressions_more n) ts x h

-- trees behind one another
all_more : (begins : List Token → Bool) (r q : Reader) → ((ts : List Token) (x : TreeOf Text × List Token) → r ts ≡ Some x → q ts ≡ Some x) → (k : ℕ) (ts : List Token) (y : Forest × List Token) → all_of begins r k ts ≡ Some y → all_of begins q k ts ≡ Some y
all_more begins r q more zero ts y h = h
all_more begins r q more (suc k) ts y h = by (λ us w g. all_more begins r q more k us w g) (begins ts) h where
  by : ((us : List Token) (w : Forest × List Token) → all_of begins r k us ≡ Some w → all_of begins q k us ≡ Some w) → (z : Bool) → elim z as (λ _. Read Forest) [ false ↦ Some (end, ts) | true ↦ after (r ts) (λ t us. and_others t (all_of begins r k us)) ] ≡ Some y
      → elim z as (λ _. Read Forest) [ false ↦ Some (end, ts) | true ↦ after (q ts) (λ t us. and_others t (all_of begins q k us)) ] ≡ Some y
  by later false g = g
  by later true g =
      after_more (r ts) (q ts) (λ t us. and_others t (all_of begins r k us)) (λ t us. and_others t (all_of begins q k us)) y (λ x e. more ts x e)
      (λ x e. others_more x.0 (all_of begins r k x.1) (all_of begins q k x.1) y (λ w d. later x.1 w d) e) g

-- what stands behind attributes is the same one level further down, or none are read there
pub behind_deeper : (n : ℕ) (ts : List Token) → (behind_attributes (reading n) ts ≡ []) ⊎ (behind_attributes (reading n) ts ≡ behind_attributes (reading (suc n)) ts)
behind_deeper n ts = by (attributes_first (reading n) ts) refl where
  behind : Read Forest → List Token
  behind r = elim r as (λ _. List Token) [ None ↦ [] | Some x ↦ x.1 ]

  by : (r : Read Forest) → attributes_first (reading n) ts ≡ r → (behind_attributes (reading n) ts ≡ []) ⊎ (behind_attributes (reading n) ts ≡ behind_attributes (reading (suc n)) ts)
  by None e = inl (ap (λ z. behind z) e)
  by (Some y) e = inr (ap (λ z. behind z) (e ∙ turned (all_more (begins_sign is.At) (reading n an_attribute) (reading (suc n) an_attribute) (one_attribute_more n) (length ts) ts y e)))
