-- Statements without `;` that begin with an expression, by what is read of them.
use Rattle.std.proofs.Common.{◌≡◌, ◌&&◌, not, if◌then◌else◌, List, [], ◌∷◌, Bool, true, false, Option, Some, None, option_map, codes, bytes_eq, refl, sym as turned, ap, ◌∙◌}
use Rattle.std.specs.Option.{option_and_then}
use Rattle.wesl_tree_names.specs.Path.{Text}
use Rattle.wesl_tree_syntax.specs.Tree.{Kind, TreeOf, assignment, at, attributes, before, indexing, named_component, parenthesized, tree, type_or_identifier, unary, branch, call_statement, decrement, end, increment, kind}
use Rattle.wesl_tree_syntax.specs.declared.statement.AssignmentOperator.{AssignmentOperator}
use Rattle.wesl_tree_syntax.specs.declared.statement.AssignmentOperator.TheVariants as operators
use Rattle.wesl_text_tokens.specs.declared.symbol.Symbol.{Symbol}
use Rattle.wesl_text_tokens.specs.declared.symbol.Symbol.TheVariants as is
use Rattle.wesl_text_tokens.specs.Tokens.{Token, name, number, symbol, open_list, close_list}
use Rattle.wesl_text_tokens.specs.Symbols.{look_up}
use Rattle.wesl_text_form.specs.Operators.{assignment_symbol, class_of, is_tight}
use Rattle.wesl_text_form.specs.Slots.{behind_token}
use Rattle.wesl_text_form.specs.Productions.{Row, Sort, a_bare_statement, a_call, an_expression, attrs, nothing, own, sym, target}
use Rattle.wesl_text_form.specs.Spelling.{Forest, Label, are_apart, begins_enclosed, ends_open, fits, is_simple, is_target_at, label_at, leads_to_place, stands_as}
use Rattle.wesl_text_reading.specs.FirstTokens.{assignment_of, begins_word, label_behind_expression, labelled, statement_label, words_of_statements}
use Rattle.wesl_text_reading.specs.Leaves.{Read, after, where_so}
use Rattle.wesl_text_reading.specs.Reading.{ForestReader, Reader as TreeReader, and_others, attributes_first, behind_attributes, label_of_statement, node_of, read_node, read_row, wildcard, without_end}
use Rattle.wesl_text_reading.proofs.Filled.{no_some}
use Rattle.wesl_text_read.specs.First.{word_first}
use Rattle.wesl_text_read_ahead.proofs.Behind.{behind_them}
use Rattle.wesl_text_read_simple.specs.declared.expressed.Change.{Change}
use Rattle.wesl_text_read_simple.specs.declared.expressed.Change.TheVariants as changes
use Rattle.wesl_text_read_simple.specs.Starts.{word_label}
use Rattle.wesl_text_read_simple.specs.Simple.{FirstPart, a_call_alone, a_place, change_first, change_of, changed_of, may_change, part_of, unended_of}
use mathlib.Core.Bool.{and-true}

-- ---- labels

-- the label of a statement by what is done to its first expression
abbrev pub label_of_change : Option Change → Label
label_of_change None = kind call_statement
label_of_change (Some changes.Increment) = kind increment
label_of_change (Some changes.Decrement) = kind decrement
label_of_change (Some (changes.Assignment o)) = assignment o

assigned-label : (o : Option AssignmentOperator) → elim o as (λ _. Option Label) [ None ↦ Some (kind call_statement) | Some q ↦ Some (assignment q) ] ≡ Some (label_of_change (option_map (λ q. changes.Assignment q) o))
assigned-label None = refl
assigned-label (Some o) = refl

sign-label : (s : Symbol) (ts : List Token) → label_behind_expression (symbol s ∷ ts) ≡ Some (label_of_change (change_of s))
sign-label is.PlusPlus ts = refl
sign-label is.MinusMinus ts = refl
sign-label s ts = assigned-label (assignment_of s)

pub behind-label : (ts : List Token) → label_behind_expression ts ≡ Some (label_of_change (change_first ts))
behind-label [] = refl
behind-label (name t ∷ ts) = refl
behind-label (number t ∷ ts) = refl
behind-label (symbol s ∷ ts) = sign-label s ts
behind-label (open_list ∷ ts) = refl
behind-label (close_list ∷ ts) = refl

-- `_` does not come first where the first token tells no label
word-wild : (b : Bool) (o : Option Label) → None ≡ (if b then Some (assignment operators.Equal) else o) → b ≡ false
word-wild true o h = cc
word-wild false o h = refl

pub no-wildcard : (ts : List Token) → None ≡ statement_label ts → begins_word (codes "_") ts ≡ false
no-wildcard [] h = refl
no-wildcard (name t ∷ ts) h = word-wild (bytes_eq (codes "_") t) (labelled kind (look_up t words_of_statements)) h
no-wildcard (number t ∷ ts) h = refl
no-wildcard (symbol s ∷ ts) h = refl
no-wildcard (open_list ∷ ts) h = refl
no-wildcard (close_list ∷ ts) h = refl

-- and does where it tells that of `=`
kind-wild : (b : Bool) (o : Option Kind) → Some (assignment operators.Equal) ≡ (if b then Some (assignment operators.Equal) else labelled kind o) → b ≡ true
kind-wild true o h = refl
kind-wild false None h = cc
kind-wild false (Some k) h = cc

sign-wild : (s : Symbol) (ts : List Token) → Some (assignment operators.Equal) ≡ statement_label (symbol s ∷ ts) → ⊥
sign-wild is.Semicolon ts h = cc
sign-wild is.BraceLeft ts h = cc
sign-wild s ts h = no_some (assignment operators.Equal) (turned h)

pub wildcard-first : (ts : List Token) → Some (assignment operators.Equal) ≡ statement_label ts → begins_word (codes "_") ts ≡ true
wildcard-first [] h = cc
wildcard-first (name t ∷ ts) h = kind-wild (bytes_eq (codes "_") t) (look_up t words_of_statements) h
wildcard-first (number t ∷ ts) h = cc
wildcard-first (symbol s ∷ ts) h = absurd (sign-wild s ts h)
wildcard-first (open_list ∷ ts) h = cc
wildcard-first (close_list ∷ ts) h = cc

-- the label that a word tells
pub word-told : (t : Text) (ts : List Token) → word_first ts ≡ Some t → word_label t ≡ statement_label ts
word-told t [] h = cc
word-told t (name u ∷ ts) h = let same : u ≡ t = cc in ap word_label (turned same)
word-told t (number u ∷ ts) h = cc
word-told t (symbol s ∷ ts) h = cc
word-told t (open_list ∷ ts) h = cc
word-told t (close_list ∷ ts) h = cc

-- ---- parts

-- what an expression begins with does not depend on what is behind it:
begins-alone : (l : Label) (c o p : Forest) → begins_enclosed (tree l c o) ≡ begins_enclosed (tree l c p)
begins-alone (at k s f) c o p = refl
begins-alone (kind named_component) c o p = refl
begins-alone (kind indexing) c o p = refl
begins-alone (kind parenthesized) c o p = refl
begins-alone l c o p = refl

leads-alone : (l : Label) (c o p : Forest) → leads_to_place (tree l c o) ≡ leads_to_place (tree l c p)
leads-alone (at k s f) c o p = refl
leads-alone (kind type_or_identifier) c o p = refl
leads-alone (kind named_component) c o p = refl
leads-alone (kind indexing) c o p = refl
leads-alone (kind parenthesized) c o p = refl
leads-alone (unary o) c p q = refl
leads-alone l c o p = refl

apart-more : (a e x : TreeOf Text) → are_apart (before a (before e (before x end))) ≡ are_apart (before a (before e end))
apart-more a e x = ap (λ b. not (ends_open a.children && b)) (begins-alone e.label e.children (before x end) end)

may-more : (a e x : TreeOf Text) → (is_target_at 1 (before a (before e (before x end))) && are_apart (before a (before e (before x end)))) ≡ may_change a e
may-more a e x =
    ap (λ b. (is_tight (class_of (label_at 0 e.children)) && b) && are_apart (before a (before e (before x end)))) (leads-alone e.label e.children (before x end) end)
    ∙ ap (λ b. is_target_at 1 (before a (before e end)) && b) (apart-more a e x)

-- what is behind the first part of a statement, with the attributes before it
abbrev pub of_part : (Sort → TreeReader) → TreeOf Text → FirstPart → TreeReader
of_part child a (a_call_alone c) ts = Some (branch call_statement (a ∷ c ∷ []), ts)
of_part child a (a_place e c) ts = changed_of child c a e ts

module _ (child : Sort → TreeReader) where
  -- reads no part
  abbrev pub no_part : Sort → TreeReader
  no_part s us = None

  abbrev pub unended_rows : Row → ForestReader
  unended_rows row = read_row child no_part (without_end child row)

  -- a statement without `;` by its label
  abbrev pub by_label : List Token → Option Label → Read (TreeOf Text)
  by_label ts o = elim o as (λ _. Read (TreeOf Text)) [
    | None ↦ None
    | Some l ↦ if is_simple (Some l) then read_node child unended_rows a_bare_statement (Some l) ts else None
  ]

  abbrev tested_by : Label → Forest → List Token → Read (TreeOf Text)
  tested_by l g ws = where_so (fits l g && stands_as a_bare_statement l g) (node_of l g) ws

  -- `++` and `--`
  counted-by : (l : Label) (a e : TreeOf Text) (o : Option (List Token)) → fits l (before a (before e end)) && stands_as a_bare_statement l (before a (before e end)) ≡ may_change a e
      → after (and_others a (and_others e (option_and_then (λ ws. Some (end, ws)) o))) (tested_by l) ≡ option_and_then (λ ws. where_so (may_change a e) (node_of l (before a (before e end))) ws) o
  counted-by l a e None h = refl
  counted-by l a e (Some ws) h = ap (λ c. where_so c (node_of l (before a (before e end))) ws) h

  -- an operator and a value
  value-by : (l : Label) (a e : TreeOf Text) (r : Read (TreeOf Text)) (b : Bool) → ((x : TreeOf Text) → (fits l (before a (before e (before x end))) && stands_as a_bare_statement l (before a (before e (before x end)))) ≡ b)
      → after (and_others a (and_others e (after r (λ x vs. and_others x (let f : Read Forest = Some (end, vs) in f))))) (tested_by l) ≡ after r (λ x vs. where_so b (node_of l (before a (before e (before x end)))) vs)
  value-by l a e None b h = refl
  value-by l a e (Some y) b h = ap (λ c. where_so c (node_of l (before a (before e (before y.0 end)))) y.1) (h y.0)

  abbrev value_row : Row
  value_row = own an_expression nothing

  assigned-by : (l : Label) (a e : TreeOf Text) (o : Option (List Token)) (b : Bool) → ((x : TreeOf Text) → (fits l (before a (before e (before x end))) && stands_as a_bare_statement l (before a (before e (before x end)))) ≡ b)
      → after (and_others a (and_others e (option_and_then (read_row child no_part value_row) o))) (tested_by l) ≡ option_and_then (λ us. after (child an_expression us) (λ x vs. where_so b (node_of l (before a (before e (before x end)))) vs)) o
  assigned-by l a e None b h = refl
  assigned-by l a e (Some us) b h = value-by l a e (child an_expression us) b h

  none-by : (l : Label) (a e : TreeOf Text) (r : Read (TreeOf Text)) → None ≡ after r (λ x vs. where_so false (node_of l (before a (before e (before x end)))) vs)
  none-by l a e None = refl
  none-by l a e (Some x) = refl

  none-assigned : (l : Label) (a e : TreeOf Text) (o : Option (List Token)) → None ≡ option_and_then (λ us. after (child an_expression us) (λ x vs. where_so false (node_of l (before a (before e (before x end)))) vs)) o
  none-assigned l a e None = refl
  none-assigned l a e (Some us) = none-by l a e (child an_expression us)

  call-by : (a : TreeOf Text) (r : Read (TreeOf Text))
      → after (and_others a (after r (λ c ws. and_others c (let f : Read Forest = Some (end, ws) in f)))) (tested_by (kind call_statement)) ≡ after (after r (λ c vs. let p : Read FirstPart = Some (a_call_alone c, vs) in p)) (of_part child a)
  call-by a None = refl
  call-by a (Some x) = refl

  module _ (ts us : List Token) (f : Forest) (there : attributes_first child ts ≡ Some (f, us)) where
    abbrev a : TreeOf Text
    a = node_of (kind attributes) f

    -- a row behind attributes
    behind-them : (l : Label) (tail : Row) → after (read_row child no_part (attrs tail) ts) (tested_by l) ≡ after (and_others a (read_row child no_part tail us)) (tested_by l)
    behind-them l tail = ap (λ (r : Read Forest). after (after r (λ g vs. and_others (node_of (kind attributes) g) (read_row child no_part tail vs))) (tested_by l)) there

    call-read : by_label ts (Some (kind call_statement)) ≡ after (after (child a_call us) (λ c vs. let p : Read FirstPart = Some (a_call_alone c, vs) in p)) (of_part child a)
    call-read = behind-them (kind call_statement) (own a_call nothing) ∙ call-by a (child a_call us)

    module _ (e : TreeOf Text) (vs : List Token) (read : child an_expression us ≡ Some (e, vs)) where
      -- the first expression is read
      behind-first : (l : Label) (tail : Row) → after (read_row child no_part (attrs (own an_expression tail)) ts) (tested_by l) ≡ after (and_others a (and_others e (read_row child no_part tail vs))) (tested_by l)
      behind-first l tail =
          behind-them l (own an_expression tail)
          ∙ ap (λ (r : Read (TreeOf Text)). after (and_others a (after r (λ t ws. and_others t (read_row child no_part tail ws)))) (tested_by l)) read

      counted-read : (k : Kind) (x : Symbol) → fits (kind k) (before a (before e end)) && stands_as a_bare_statement (kind k) (before a (before e end)) ≡ may_change a e
          → after (read_row child no_part (attrs (own an_expression (sym x nothing))) ts) (tested_by (kind k)) ≡ option_and_then (λ ws. where_so (may_change a e) (node_of (kind k) (before a (before e end))) ws) (behind_token (symbol x) vs)
      counted-read k x h = behind-first (kind k) (sym x nothing) ∙ counted-by (kind k) a e (behind_token (symbol x) vs) h

      assigned-read : (o : AssignmentOperator) → ((x : TreeOf Text) → (fits (assignment o) (before a (before e (before x end))) && stands_as a_bare_statement (assignment o) (before a (before e (before x end)))) ≡ may_change a e)
          → after (read_row child no_part (attrs (own an_expression (sym (assignment_symbol o) value_row))) ts) (tested_by (assignment o)) ≡ changed_of child (changes.Assignment o) a e vs
      assigned-read o h =
          behind-first (assignment o) (sym (assignment_symbol o) value_row)
          ∙ assigned-by (assignment o) a e (behind_token (symbol (assignment_symbol o)) vs) (may_change a e) h

      -- whether the first expression may be assigned to
      abbrev is_place : Bool
      is_place = is_tight (class_of (label_at 0 e.children)) && leads_to_place (before e end)

      equal-by : (b : Bool) → is_place ≡ b
          → after (and_others a (after (where_so b e vs) (λ t ws. and_others t (read_row child no_part (sym is.Equal value_row) ws)))) (tested_by (assignment operators.Equal)) ≡ changed_of child (changes.Assignment operators.Equal) a e vs
      equal-by true h =
          assigned-by (assignment operators.Equal) a e (behind_token (symbol is.Equal) vs) (may_change a e)
          (λ x. and-true (are_apart (before a (before e (before x end)))) ∙ (apart-more a e x ∙ turned (ap (λ c. c && are_apart (before a (before e end))) h)))
      equal-by false h =
          none-assigned (assignment operators.Equal) a e (behind_token (symbol is.Equal) vs)
          ∙ ap (λ c. option_and_then (λ us. after (child an_expression us) (λ x ws. where_so (c && are_apart (before a (before e end))) (node_of (assignment operators.Equal) (before a (before e (before x end)))) ws)) (behind_token (symbol is.Equal) vs)) (turned h)

      equal-read : begins_word (codes "_") us ≡ false → by_label ts (Some (assignment operators.Equal)) ≡ changed_of child (changes.Assignment operators.Equal) a e vs
      equal-read isnt =
          behind-them (assignment operators.Equal) (target (sym is.Equal value_row))
          ∙ (ap (λ (b : Bool). after (and_others a (after (if b then Some (wildcard child, elim us as (λ _. List Token) [ [] ↦ [] | t ∷ ws ↦ ws ]) else after (child an_expression us) (λ t ws. where_so (is_tight (class_of (label_at 0 t.children)) && leads_to_place (before t end)) t ws)) (λ t ws. and_others t (read_row child no_part (sym is.Equal value_row) ws)))) (tested_by (assignment operators.Equal))) isnt
          ∙ (ap (λ (r : Read (TreeOf Text)). after (and_others a (after (after r (λ t ws. where_so (is_tight (class_of (label_at 0 t.children)) && leads_to_place (before t end)) t ws)) (λ t ws. and_others t (read_row child no_part (sym is.Equal value_row) ws)))) (tested_by (assignment operators.Equal))) read
          ∙ equal-by is_place refl))

      fit : (x : TreeOf Text) → ((is_target_at 1 (before a (before e (before x end))) && are_apart (before a (before e (before x end)))) && true) ≡ may_change a e
      fit x = and-true (is_target_at 1 (before a (before e (before x end))) && are_apart (before a (before e (before x end)))) ∙ may-more a e x

      assignment-read : (o : AssignmentOperator) → begins_word (codes "_") us ≡ false → by_label ts (Some (assignment o)) ≡ changed_of child (changes.Assignment o) a e vs
      assignment-read operators.Equal isnt = equal-read isnt
      assignment-read operators.PlusEqual isnt = assigned-read operators.PlusEqual fit
      assignment-read operators.MinusEqual isnt = assigned-read operators.MinusEqual fit
      assignment-read operators.TimesEqual isnt = assigned-read operators.TimesEqual fit
      assignment-read operators.DivisionEqual isnt = assigned-read operators.DivisionEqual fit
      assignment-read operators.ModuloEqual isnt = assigned-read operators.ModuloEqual fit
      assignment-read operators.AndEqual isnt = assigned-read operators.AndEqual fit
      assignment-read operators.OrEqual isnt = assigned-read operators.OrEqual fit
      assignment-read operators.XorEqual isnt = assigned-read operators.XorEqual fit
      assignment-read operators.ShiftLeftAssign isnt = assigned-read operators.ShiftLeftAssign fit
      assignment-read operators.ShiftRightAssign isnt = assigned-read operators.ShiftRightAssign fit

      -- a statement by what is done to its first expression
      change-read : (c : Option Change) → begins_word (codes "_") us ≡ false
          → by_label ts (Some (label_of_change c)) ≡ after (elim c as (λ _. Read FirstPart) [ None ↦ after (child a_call us) (λ t ws. Some (a_call_alone t, ws)) | Some d ↦ Some (a_place e d, vs) ]) (of_part child a)
      change-read None isnt = call-read
      change-read (Some changes.Increment) isnt = counted-read increment is.PlusPlus (and-true (may_change a e))
      change-read (Some changes.Decrement) isnt = counted-read decrement is.MinusMinus (and-true (may_change a e))
      change-read (Some (changes.Assignment o)) isnt = assignment-read o isnt

    expression-by : (q : Read (TreeOf Text)) → child an_expression us ≡ q → begins_word (codes "_") us ≡ false
        → by_label ts (option_and_then (λ x. label_behind_expression x.1) q)
        ≡ after (after q (λ e vs. elim (change_first vs) as (λ _. Read FirstPart) [ None ↦ after (child a_call us) (λ t ws. Some (a_call_alone t, ws)) | Some d ↦ Some (a_place e d, vs) ])) (of_part child a)
    expression-by None read isnt = refl
    expression-by (Some x) read isnt = ap (by_label ts) (behind-label x.1) ∙ change-read x.0 x.1 read (change_first x.1) isnt

    some-read : None ≡ statement_label us → by_label ts (label_of_statement child us) ≡ after (part_of child us) (of_part child a)
    some-read h =
        ap (λ (o : Option Label). by_label ts (elim o as (λ _. Option Label) [ None ↦ option_and_then (λ x. label_behind_expression x.1) (child an_expression us) | Some m ↦ Some m ])) (turned h)
        ∙ expression-by (child an_expression us) refl (no-wildcard us h)

  attributes-by : (r : Read Forest) (ts : List Token) → attributes_first child ts ≡ r → child an_expression [] ≡ None → None ≡ statement_label (behind_them r)
      → by_label ts (label_of_statement child (behind_them r)) ≡ after r (λ f us. after (part_of child us) (of_part child (node_of (kind attributes) f)))
  attributes-by None ts there none h = ap (λ (q : Read (TreeOf Text)). by_label ts (option_and_then (λ x. label_behind_expression x.1) q)) none
  attributes-by (Some x) ts there none h = some-read ts x.1 x.0 there h

  -- a statement that begins with an expression: its attributes, its first part and what is behind it
  pub expressed-read : (ts : List Token) → child an_expression [] ≡ None → None ≡ statement_label (behind_attributes child ts)
      → unended_of child ts ≡ after (attributes_first child ts) (λ f us. after (part_of child us) (of_part child (node_of (kind attributes) f)))
  expressed-read ts none h = attributes-by (attributes_first child ts) ts refl none h
