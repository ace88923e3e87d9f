-- Types and what begins with a word, part by part.
use Rattle.std.proofs.Common.{◌≡◌, ℕ, zero, suc, List, [], ◌∷◌, length, Bool, true, false, not, ◌&&◌, ◌||◌, if◌then◌else◌, Option, Some, None, codes, bytes_eq, refl, sym, ap, ◌∙◌, subst}
use Rattle.std.specs.Option.{option_and_then}
use Rattle.wesl_tree_names.specs.Path.{Text}
use Rattle.wesl_tree_syntax.specs.Tree.{Kind, TreeOf, LabelOf, kind, tree, before, end, leaf as tree_leaf, branch, text, truth, absent, present, list, literal, parenthesized, call, call_expression, type_expression, type_or_identifier, template_argument, reference}
use Rattle.wesl_text_tokens.specs.declared.symbol.Symbol.TheVariants as is
use Rattle.wesl_text_tokens.specs.Tokens.{Token, name, number, symbol, open_list, close_list}
use Rattle.wesl_text_form.specs.Slots.{behind_token, comes_first}
use Rattle.wesl_text_form.specs.Spelling.{Forest, Label, fits, stands_as, is_end}
use Rattle.wesl_text_form.specs.Productions.{Sort, a_bare_expression, a_call, a_type, an_argument, an_expression, a_literal, a_path, an_ident, Row, nothing, sym as sign, closes, opens, commas, leaf, optional}
use Rattle.wesl_text_reading.specs.FirstTokens.{begins_expression, begins_path, begins_sign, behind_first, operand_label}
use Rattle.wesl_text_reading.specs.Leaves.{Read, after, read_leaf, where_so}
use Rattle.wesl_text_reading.specs.Reading.{ForestReader, Reader as TreeReader, and_others, begins_child, begins_row, behind_child, node, node_of, read_node, read_part, read_row, separate_of}
use Rattle.wesl_text_read.specs.First.{number_first, word_first}
use Rattle.wesl_text_read.proofs.After.{after-others, after-same}
use Rattle.wesl_text_read.proofs.First.{token-behind}

-- ---- lists that are not empty

pub no-items : (b : List Token → Bool) (one : TreeReader) (m : ℕ) (ts : List Token) → b ts ≡ false → separate_of b one m ts ≡ Some (end, ts)
no-items b one zero ts h = ap (λ (c : Bool). let r : Read Forest = if c then None else Some (end, ts) in r) h
no-items b one (suc m) ts h = ap (λ (c : Bool). elim c as (λ _. Read Forest) [
  | false ↦ Some (end, ts)
  | true ↦ after (one ts) (λ t us. and_others t (elim (begins_sign is.Comma us) as (λ _. Read Forest) [ false ↦ Some (end, us) | true ↦ separate_of b one m (behind_first us) ]))
]) h

-- whether nothing is read, or some tree
abbrev has_some : Read Forest → Bool
has_some None = true
has_some (Some x) = not (is_end x.0)

others-some : (t : TreeOf Text) (r : Read Forest) → has_some (and_others t r) ≡ true
others-some t None = refl
others-some t (Some x) = refl

after-some : (r : Read (TreeOf Text)) (k : List Token → Read Forest) → has_some (after r (λ t us. and_others t (k us))) ≡ true
after-some None k = refl
after-some (Some x) k = others-some x.0 (k x.1)

some-items : (b : List Token → Bool) (one : TreeReader) (m : ℕ) (ts : List Token) → b ts ≡ true → has_some (separate_of b one m ts) ≡ true
some-items b one zero ts h = ap (λ (c : Bool). has_some (if c then None else Some (end, ts))) h
some-items b one (suc m) ts h = ap (λ (c : Bool). has_some (elim c as (λ _. Read Forest) [
  | false ↦ Some (end, ts)
  | true ↦ after (one ts) (λ t us. and_others t (elim (begins_sign is.Comma us) as (λ _. Read Forest) [ false ↦ Some (end, us) | true ↦ separate_of b one m (behind_first us) ]))
])) h ∙ after-some (one ts) (λ us. elim (begins_sign is.Comma us) as (λ _. Read Forest) [ false ↦ Some (end, us) | true ↦ separate_of b one m (behind_first us) ])

-- the arguments of a call
abbrev pub argument_list : Row
argument_list = sign is.ParenLeft (commas list an_expression (sign is.ParenRight nothing))

-- ---- types, where `child` reads the nodes in them

module _ (child : Sort → TreeReader) where
  -- the parts of a type: its path, and its arguments
  abbrev pub a_type_path : TreeReader
  a_type_path ts = elim (begins_row child (leaf (a_path false) nothing) ts) as (λ _. Read (TreeOf Text)) [
    | false ↦ Some (tree_leaf (kind absent), ts)
    | true ↦ after (read_row child (read_part child) (leaf (a_path false) nothing) ts) (λ f us. Some (node_of (kind present) f, us))
  ]

  abbrev pub some_arguments : TreeReader
  some_arguments ts = after (separate_of (begins_child child an_argument) (child an_argument) (length ts) ts) (λ f us. Some (node_of (kind list) f, us))

  abbrev pub a_list : TreeReader
  a_list ts = elim (begins_expression ts) as (λ _. Read (TreeOf Text)) [
    | false ↦ None
    | true ↦ after (some_arguments ts) (λ t us. option_and_then (λ vs. Some (t, vs)) (behind_token close_list us))
  ]

  abbrev pub a_template : TreeReader
  a_template ts = elim (comes_first open_list ts) as (λ _. Read (TreeOf Text)) [
    | false ↦ Some (tree_leaf (kind absent), ts)
    | true ↦ after (a_list (behind_first ts)) (λ t us. Some (branch present (t ∷ []), us))
  ]

  -- a type of these parts
  abbrev typed : Forest → List Token → Read (TreeOf Text)
  typed f us = where_so (fits (kind type_expression) f && stands_as a_type (kind type_expression) f) (node_of (kind type_expression) f) us

  abbrev argument_row : Row
  argument_row = optional (opens (commas list an_argument (closes nothing))) nothing

  abbrev name_row : Row
  name_row = leaf (an_ident reference) argument_row

  abbrev rows : Row → ForestReader
  rows = read_row child (read_part child)

  -- what is read of a list, behind the arguments
  abbrev closed : Forest → List Token → Read Forest
  closed f us = and_others (node_of (kind list) f) (option_and_then (λ vs. Some (end, vs)) (behind_token close_list us))

  module _ (p i : TreeOf Text) where
    abbrev typed_with : Forest → List Token → Read (TreeOf Text)
    typed_with f us = typed (before p (before i f)) us

    abbrev pub type_with : TreeOf Text → List Token → Read (TreeOf Text)
    type_with a us = Some (branch type_expression (p ∷ i ∷ a ∷ []), us)

    abbrev behind_list : Read Forest → Read (TreeOf Text)
    behind_list r = after (after r (λ f us. and_others (node_of (kind present) f) (Some (end, us)))) typed_with

    abbrev listed_with : Read (TreeOf Text) → Read (TreeOf Text)
    listed_with r = after (after r (λ t us. Some (branch present (t ∷ []), us))) type_with

    close-none : (o : Option (List Token)) → behind_list (and_others (node_of (kind list) end) (option_and_then (λ vs. Some (end, vs)) o)) ≡ None
    close-none None = refl
    close-none (Some vs) = refl

    close-some : (l : Label) (c f : Forest) (o : Option (List Token))
        → behind_list (and_others (node_of (kind list) (tree l c f)) (option_and_then (λ vs. Some (end, vs)) o)) ≡ listed_with (option_and_then (λ vs. Some (node_of (kind list) (tree l c f), vs)) o)
    close-some l c f None = refl
    close-some l c f (Some vs) = refl

    closed-some : (r : Read Forest) → has_some r ≡ true → behind_list (after r closed) ≡ listed_with (after (after r (λ f us. Some (node_of (kind list) f, us))) (λ t us. option_and_then (λ vs. Some (t, vs)) (behind_token close_list us)))
    closed-some None h = refl
    closed-some (Some (end, us)) h = cc
    closed-some (Some (tree l c f, us)) h = close-some l c f (behind_token close_list us)

    list-by : (us : List Token) (b : Bool) → begins_expression us ≡ b → behind_list (rows (commas list an_argument (closes nothing)) us) ≡ listed_with (a_list us)
    list-by us false h =
        ap (λ r. behind_list (after r closed)) (no-items (begins_child child an_argument) (child an_argument) (length us) us h)
        ∙ (close-none (behind_token close_list us)
        ∙ sym (ap (λ (b : Bool). listed_with (elim b as (λ _. Read (TreeOf Text)) [ false ↦ None | true ↦ after (some_arguments us) (λ t us. option_and_then (λ vs. Some (t, vs)) (behind_token close_list us)) ])) h))
    list-by us true h =
        closed-some (separate_of (begins_child child an_argument) (child an_argument) (length us) us) (some-items (begins_child child an_argument) (child an_argument) (length us) us h)
        ∙ sym (ap (λ (b : Bool). listed_with (elim b as (λ _. Read (TreeOf Text)) [ false ↦ None | true ↦ after (some_arguments us) (λ t us. option_and_then (λ vs. Some (t, vs)) (behind_token close_list us)) ])) h)

    template-by : (vs : List Token) (b : Bool) → comes_first open_list vs ≡ b
        → after (elim b as (λ _. Read Forest) [ false ↦ and_others (branch absent []) (Some (end, vs)) | true ↦ after (rows (opens (commas list an_argument (closes nothing))) vs) (λ f us. and_others (node_of (kind present) f) (Some (end, us))) ]) typed_with
        ≡ after (elim b as (λ _. Read (TreeOf Text)) [ false ↦ Some (tree_leaf (kind absent), vs) | true ↦ after (a_list (behind_first vs)) (λ t us. Some (branch present (t ∷ []), us)) ]) type_with
    template-by vs false h = refl
    template-by vs true h =
        ap (λ (o : Option (List Token)). behind_list (option_and_then (rows (commas list an_argument (closes nothing))) o)) (token-behind open_list vs h)
        ∙ list-by (behind_first vs) (begins_expression (behind_first vs)) refl

    template-read : (vs : List Token) → after (rows argument_row vs) typed_with ≡ after (a_template vs) type_with
    template-read vs = template-by vs (comes_first open_list vs) refl

  -- what is behind the path of a type
  abbrev pub behind_path : TreeOf Text → List Token → Read (TreeOf Text)
  behind_path p us = after (read_leaf (an_ident reference) us) (λ l vs. after (a_template vs) (type_with p (tree_leaf l)))

  name-by : (p : TreeOf Text) (r : Read Label) → after (after r (λ l vs. and_others (tree_leaf l) (rows argument_row vs))) (λ f us. typed (before p f) us) ≡ after r (λ l vs. after (a_template vs) (type_with p (tree_leaf l)))
  name-by p None = refl
  name-by p (Some x) = after-others (tree_leaf x.0) (rows argument_row x.1) (λ f us. typed (before p f) us) ∙ template-read p (tree_leaf x.0) x.1

  name-read : (p : TreeOf Text) (us : List Token) → after (rows name_row us) (λ f vs. typed (before p f) vs) ≡ behind_path p us
  name-read p us = name-by p (read_leaf (an_ident reference) us)

  with-path : (r : Read Forest) → after (after r (λ f us. and_others (node_of (kind present) f) (rows name_row us))) typed ≡ after (after r (λ f us. let t : Read (TreeOf Text) = Some (node_of (kind present) f, us) in t)) behind_path
  with-path None = refl
  with-path (Some x) = after-others (node_of (kind present) x.0) (rows name_row x.1) typed ∙ name-read (node_of (kind present) x.0) x.1

  path-by : (ts : List Token) (b : Bool)
      → after (elim b as (λ _. Read Forest) [ false ↦ and_others (branch absent []) (rows name_row ts) | true ↦ after (rows (leaf (a_path false) nothing) ts) (λ f us. and_others (node_of (kind present) f) (rows name_row us)) ]) typed
      ≡ after (elim b as (λ _. Read (TreeOf Text)) [ false ↦ Some (tree_leaf (kind absent), ts) | true ↦ after (rows (leaf (a_path false) nothing) ts) (λ f us. Some (node_of (kind present) f, us)) ]) behind_path
  path-by ts false = after-others (branch absent []) (rows name_row ts) typed ∙ name-read (tree_leaf (kind absent)) ts
  path-by ts true = with-path (rows (leaf (a_path false) nothing) ts)

  pub type-read : (ts : List Token) → node child a_type ts ≡ after (a_type_path ts) behind_path
  type-read ts = path-by ts (begins_path false ts)

  -- ---- what is behind a type

  abbrev pub call_of : TreeOf Text → List Token → Read (TreeOf Text)
  call_of ty us = after (rows argument_list us) (λ f vs. Some (node_of (kind call) (before ty f), vs))

  abbrev pub worded : TreeOf Text → List Token → Read (TreeOf Text)
  worded ty us = elim (begins_sign is.ParenLeft us) as (λ _. Read (TreeOf Text)) [
    | false ↦ Some (branch type_or_identifier (ty ∷ []), us)
    | true ↦ after (call_of ty us) (λ c vs. Some (branch call_expression (c ∷ []), vs))
  ]

  call-by : (r : Read (TreeOf Text)) → after (after r (λ t us. and_others t (rows argument_list us))) (λ f us. where_so true (node_of (kind call) f) us) ≡ after r call_of
  call-by None = refl
  call-by (Some x) = after-others x.0 (rows argument_list x.1) (λ f us. where_so true (node_of (kind call) f) us)

  pub call-read : (ts : List Token) → node child a_call ts ≡ after (child a_type ts) call_of
  call-read ts = call-by (child a_type ts)

  -- an expression by its label
  abbrev by_label : List Token → Option Label → Read (TreeOf Text)
  by_label ts l = read_node child rows a_bare_expression l ts

  call-alone : (r : Read (TreeOf Text)) → after (after r (λ t us. and_others t (let f : Read Forest = Some (end, us) in f))) (λ f us. where_so true (node_of (kind call_expression) f) us) ≡ after r (λ c vs. Some (branch call_expression (c ∷ []), vs))
  call-alone None = refl
  call-alone (Some x) = refl

  module _ (t : Text) (us : List Token) (not_true : bytes_eq t (codes "true") ≡ false) (not_false : bytes_eq t (codes "false") ≡ false) where
    word-label : (vs : List Token) (b : Bool) → begins_sign is.ParenLeft vs ≡ b → operand_label (name t ∷ us) vs ≡ Some (kind (if b then call_expression else type_or_identifier))
    word-label vs true h =
        ap (λ (a : Bool). let l : Option Label = if a || bytes_eq t (codes "false") then Some (kind literal) else if begins_sign is.ParenLeft vs then Some (kind call_expression) else Some (kind type_or_identifier) in l) not_true
        ∙ (ap (λ (a : Bool). let l : Option Label = if a then Some (kind literal) else if begins_sign is.ParenLeft vs then Some (kind call_expression) else Some (kind type_or_identifier) in l) not_false
        ∙ ap (λ (a : Bool). let l : Option Label = if a then Some (kind call_expression) else Some (kind type_or_identifier) in l) h)
    word-label vs false h =
        ap (λ (a : Bool). let l : Option Label = if a || bytes_eq t (codes "false") then Some (kind literal) else if begins_sign is.ParenLeft vs then Some (kind call_expression) else Some (kind type_or_identifier) in l) not_true
        ∙ (ap (λ (a : Bool). let l : Option Label = if a then Some (kind literal) else if begins_sign is.ParenLeft vs then Some (kind call_expression) else Some (kind type_or_identifier) in l) not_false
        ∙ ap (λ (a : Bool). let l : Option Label = if a then Some (kind call_expression) else Some (kind type_or_identifier) in l) h)

    behind-is : (r : Read (TreeOf Text)) → child a_type (name t ∷ us) ≡ r → behind_child child a_type (name t ∷ us) ≡ elim r as (λ _. List Token) [ None ↦ [] | Some x ↦ x.1 ]
    behind-is r e = ap (λ (z : Read (TreeOf Text)). elim z as (λ _. List Token) [ None ↦ [] | Some x ↦ x.1 ]) e

    word-some : (x : TreeOf Text × List Token) (b : Bool) → begins_sign is.ParenLeft x.1 ≡ b → child a_type (name t ∷ us) ≡ Some x → child a_call (name t ∷ us) ≡ call_of x.0 x.1
        → node child a_bare_expression (name t ∷ us) ≡ elim b as (λ _. Read (TreeOf Text)) [ false ↦ Some (branch type_or_identifier (x.0 ∷ []), x.1) | true ↦ after (call_of x.0 x.1) (λ c vs. Some (branch call_expression (c ∷ []), vs)) ]
    word-some x false h e called =
        ap (by_label (name t ∷ us)) (ap (λ vs. operand_label (name t ∷ us) vs) (behind-is (Some x) e) ∙ word-label x.1 false h)
        ∙ ap (λ (r : Read (TreeOf Text)). after (after r (λ t us. and_others t (Some (end, us)))) (λ f us. where_so true (node_of (kind type_or_identifier) f) us)) e
    word-some x true h e called =
        ap (by_label (name t ∷ us)) (ap (λ vs. operand_label (name t ∷ us) vs) (behind-is (Some x) e) ∙ word-label x.1 true h)
        ∙ (ap (λ (r : Read (TreeOf Text)). after (after r (λ t us. and_others t (Some (end, us)))) (λ f us. where_so true (node_of (kind call_expression) f) us)) called
        ∙ call-alone (call_of x.0 x.1))

    word-by : (r : Read (TreeOf Text)) → child a_type (name t ∷ us) ≡ r → child a_call (name t ∷ us) ≡ after r call_of → node child a_bare_expression (name t ∷ us) ≡ after r worded
    word-by None e called =
        ap (by_label (name t ∷ us)) (ap (λ vs. operand_label (name t ∷ us) vs) (behind-is None e) ∙ word-label [] false refl)
        ∙ ap (λ (r : Read (TreeOf Text)). after (after r (λ t us. and_others t (Some (end, us)))) (λ f us. where_so true (node_of (kind type_or_identifier) f) us)) e
    word-by (Some x) e called = word-some x (begins_sign is.ParenLeft x.1) refl e called

    pub word-read : child a_call (name t ∷ us) ≡ after (child a_type (name t ∷ us)) call_of → node child a_bare_expression (name t ∷ us) ≡ after (child a_type (name t ∷ us)) worded
    word-read called = word-by (child a_type (name t ∷ us)) refl called

  -- ---- literals and parentheses

  pub number-read : (t : Text) (us : List Token) → node child a_bare_expression (number t ∷ us) ≡ Some (branch literal (tree_leaf (text t) ∷ []), us)
  number-read t us = refl

  literal-read : (ts : List Token) (l : Label) (us : List Token) → operand_label ts (behind_child child a_type ts) ≡ Some (kind literal) → read_leaf a_literal ts ≡ Some (l, us) → node child a_bare_expression ts ≡ Some (branch literal (tree_leaf l ∷ []), us)
  literal-read ts l us labelled leafed =
      ap (by_label ts) labelled
      ∙ ap (λ (r : Read Label). after (after r (λ l us. and_others (tree_leaf l) (Some (end, us)))) (λ f us. where_so true (node_of (kind literal) f) us)) leafed

  pub true-read : (t : Text) (us : List Token) → bytes_eq t (codes "true") ≡ true → node child a_bare_expression (name t ∷ us) ≡ Some (branch literal (tree_leaf (truth true) ∷ []), us)
  true-read t us h = literal-read (name t ∷ us) (truth true) us
      (ap (λ (a : Bool). let l : Option Label = if a || bytes_eq t (codes "false") then Some (kind literal) else if begins_sign is.ParenLeft (behind_child child a_type (name t ∷ us)) then Some (kind call_expression) else Some (kind type_or_identifier) in l) h)
      (ap (λ (a : Bool). let r : Read Label = if a then Some (truth true, us) else if bytes_eq t (codes "false") then Some (truth false, us) else None in r) h)

  pub false-read : (t : Text) (us : List Token) → bytes_eq t (codes "true") ≡ false → bytes_eq t (codes "false") ≡ true → node child a_bare_expression (name t ∷ us) ≡ Some (branch literal (tree_leaf (truth false) ∷ []), us)
  false-read t us differs h = literal-read (name t ∷ us) (truth false) us
      (ap (λ (a : Bool). let l : Option Label = if a || bytes_eq t (codes "false") then Some (kind literal) else if begins_sign is.ParenLeft (behind_child child a_type (name t ∷ us)) then Some (kind call_expression) else Some (kind type_or_identifier) in l) differs
      ∙ ap (λ (a : Bool). let l : Option Label = if a then Some (kind literal) else if begins_sign is.ParenLeft (behind_child child a_type (name t ∷ us)) then Some (kind call_expression) else Some (kind type_or_identifier) in l) h)
      (ap (λ (a : Bool). let r : Read Label = if a then Some (truth true, us) else if bytes_eq t (codes "false") then Some (truth false, us) else None in r) differs
      ∙ ap (λ (a : Bool). let r : Read Label = if a then Some (truth false, us) else None in r) h)

  -- parentheses and what is in them
  abbrev pub enclosed : TreeReader
  enclosed ts = option_and_then (λ us. after (child an_expression us) (λ e vs. option_and_then (λ ws. Some (branch parenthesized (e ∷ []), ws)) (behind_token (symbol is.ParenRight) vs))) (behind_token (symbol is.ParenLeft) ts)

  paren-label : (ts us : List Token) → begins_sign is.ParenLeft ts ≡ true → operand_label ts us ≡ Some (kind parenthesized)
  paren-label [] us h = cc
  paren-label (name t ∷ ts) us h = cc
  paren-label (number t ∷ ts) us h = cc
  paren-label (symbol a ∷ ts) us h = ap (λ (b : Bool). let l : Option Label = if b then Some (kind parenthesized) else None in l) h
  paren-label (open_list ∷ ts) us h = cc
  paren-label (close_list ∷ ts) us h = cc

  close-paren : (e : TreeOf Text) (o : Option (List Token)) → after (and_others e (option_and_then (λ ws. Some (end, ws)) o)) (λ f us. where_so true (node_of (kind parenthesized) f) us) ≡ option_and_then (λ ws. Some (branch parenthesized (e ∷ []), ws)) o
  close-paren e None = refl
  close-paren e (Some ws) = refl

  inside-by : (r : Read (TreeOf Text)) → after (after r (λ e vs. and_others e (option_and_then (λ ws. Some (end, ws)) (behind_token (symbol is.ParenRight) vs)))) (λ f us. where_so true (node_of (kind parenthesized) f) us) ≡ after r (λ e vs. option_and_then (λ ws. Some (branch parenthesized (e ∷ []), ws)) (behind_token (symbol is.ParenRight) vs))
  inside-by None = refl
  inside-by (Some x) = close-paren x.0 (behind_token (symbol is.ParenRight) x.1)

  enclosed-by : (o : Option (List Token)) → after (option_and_then (λ us. after (child an_expression us) (λ e vs. and_others e (option_and_then (λ ws. Some (end, ws)) (behind_token (symbol is.ParenRight) vs)))) o) (λ f us. where_so true (node_of (kind parenthesized) f) us) ≡ option_and_then (λ us. after (child an_expression us) (λ e vs. option_and_then (λ ws. Some (branch parenthesized (e ∷ []), ws)) (behind_token (symbol is.ParenRight) vs))) o
  enclosed-by None = refl
  enclosed-by (Some us) = inside-by (child an_expression us)

  pub enclosed-read : (ts : List Token) → begins_sign is.ParenLeft ts ≡ true → node child a_bare_expression ts ≡ enclosed ts
  enclosed-read ts h = ap (by_label ts) (paren-label ts (behind_child child a_type ts) h) ∙ enclosed-by (behind_token (symbol is.ParenLeft) ts)

  -- ---- an argument is an expression

  argument-by : (r : Read (TreeOf Text)) → after (after r (λ t us. and_others t (let f : Read Forest = Some (end, us) in f))) (λ f us. where_so true (node_of (kind template_argument) f) us) ≡ after r (λ e us. Some (branch template_argument (e ∷ []), us))
  argument-by None = refl
  argument-by (Some x) = refl

  pub argument-read : (ts : List Token) → node child an_argument ts ≡ after (child an_expression ts) (λ e us. Some (branch template_argument (e ∷ []), us))
  argument-read ts = argument-by (child an_expression ts)
