-- Attributes, part by part.
use Rattle.std.proofs.Common.{◌≡◌, ℕ, zero, suc, List, [], ◌∷◌, ◌++◌, length, map, Bool, true, false, not, ◌&&◌, ◌||◌, if◌then◌else◌, Option, Some, None, codes, bytes_eq, refl, sym, ap, ◌∙◌, subst}
use Rattle.std.specs.Option.{option_and_then}
use Rattle.wesl_tree_names.specs.Path.{Text}
use Rattle.wesl_tree_syntax.specs.Tree.{Forest, Kind, Tree, TreeOf, absent, at, forest_of, list, present, kind, tree, before, end, leaf as tree_leaf, branch, respell, respell_forest, text, texts, align, binding, blend_src, builtin, custom, diagnostic, interpolate, workgroup_size, attribute_node}
use Rattle.wesl_tree_syntax.specs.Unit.{name_in}
use Rattle.wesl_tree_syntax.specs.View.{attribute_view, placed}
use Rattle.wesl_tree_syntax.specs.declared.attribute.Attribute.{Attribute}
use Rattle.wesl_tree_syntax.specs.declared.span.Spanned.{Spanned}
use Rattle.std.proofs.lemmas.List.{map-append}
use Rattle.wesl_text_tokens.specs.Symbols.{look_up}
use Rattle.wesl_text_tokens.specs.declared.symbol.Symbol.TheVariants as is
use Rattle.wesl_text_tokens.specs.Tokens.{Token, name, number, symbol, open_list, close_list}
use Rattle.wesl_text_form.specs.Slots.{behind_token, comes_first}
use Rattle.wesl_text_form.specs.Names.{is_among, known_attributes}
use Rattle.wesl_text_form.specs.Spelling.{Forest as SpelledForest, Label as SpelledLabel, fits, is_absent_at}
use Rattle.wesl_text_form.specs.Productions.{Sort, a_bare_attribute, an_attribute, an_expression, a_custom, a_rule, a_word, one_or_two, Row, nothing, sym as sign, may_sym, own, leaf, commas, optional}
use Rattle.wesl_text_reading.specs.FirstTokens.{attribute_label, begins_sign, behind_first, goes_on_behind, or_kind, words_of_attributes}
use Rattle.wesl_text_reading.specs.Leaves.{Read, after, read_leaf, where_so}
use Rattle.wesl_text_reading.specs.Reading.{ForestReader, Reader as TreeReader, all_of, and_others, any, at_level, begins_row, node, node_of, ranked, read_node, read_part, read_row}
use Rattle.wesl_text_read.specs.declared.reader.Reader.{Reader}
use Rattle.wesl_text_read.specs.declared.attribute_word.OperandWord.{OperandWord}
use Rattle.wesl_text_read.specs.declared.attribute_word.OperandWord.TheVariants as operands
use Rattle.wesl_text_read.specs.declared.attribute_word.PlainWord.{PlainWord}
use Rattle.wesl_text_read.specs.declared.attribute_word.PlainWord.TheVariants as plains
use Rattle.wesl_text_read.specs.AttributeWords.{operand_kind, operand_text, plain_kind, plain_text}
use Rattle.wesl_text_read.specs.Attributes.{attribute_at}
use Rattle.wesl_text_read.specs.First.{word_first}
use Rattle.wesl_text_read.specs.Leads.{Keeps, Leads, Makes, Reads, Refuses, Skips, ahead}
use Rattle.wesl_text_read.specs.Levels.{inner}
use Rattle.wesl_text_read.specs.Parts.{may_at, row_at}
use Rattle.wesl_text_read.proofs.Leading.{keeping, next, nothing_there, once_clear, seen, stay, under}
use Rattle.wesl_text_read.proofs.Paths.{sign-is}
use Rattle.wesl_text_read.proofs.Rows.{RowLeads, row_ends, row_optional}
use Rattle.wesl_text_read.proofs.After.{after-others}
use Rattle.wesl_text_read.proofs.Lists.{behind-more, behind-none, behind_trees, joined-end}

-- an operand, and the parts of attributes that have several
abbrev pub operand_row : Row
operand_row = sign is.ParenLeft (own an_expression (may_sym is.Comma (sign is.ParenRight nothing)))

abbrev pub builtin_row : Row
builtin_row = sign is.ParenLeft (leaf a_word (may_sym is.Comma (sign is.ParenRight nothing)))

abbrev pub diagnostic_row : Row
diagnostic_row = sign is.ParenLeft (leaf a_word (sign is.Comma (leaf a_rule (may_sym is.Comma (sign is.ParenRight nothing)))))

abbrev pub interpolate_row : Row
interpolate_row = sign is.ParenLeft (leaf one_or_two (sign is.ParenRight nothing))

module _ (child : Sort → TreeReader) where
  abbrev rows : Row → ForestReader
  rows = read_row child (read_part child)

  abbrev pub of_kind : Kind → SpelledForest → List Token → Read (TreeOf Text)
  of_kind k f us = Some (node_of (kind k) f, us)

  pub operand-attribute : (w : OperandWord) (us : List Token) → node child a_bare_attribute (symbol is.At ∷ name (operand_text w) ∷ us) ≡ after (rows operand_row us) (of_kind (operand_kind w))
  operand-attribute operands.Align us = refl
  operand-attribute operands.Binding us = refl
  operand-attribute operands.BlendSrc us = refl
  operand-attribute operands.Group us = refl
  operand-attribute operands.Id us = refl
  operand-attribute operands.Location us = refl
  operand-attribute operands.Size us = refl
  operand-attribute operands.If us = refl
  operand-attribute operands.Elif us = refl

  pub plain-attribute : (w : PlainWord) (us : List Token) → node child a_bare_attribute (symbol is.At ∷ name (plain_text w) ∷ us) ≡ Some (branch (plain_kind w) [], us)
  plain-attribute plains.Const us = refl
  plain-attribute plains.Invariant us = refl
  plain-attribute plains.MustUse us = refl
  plain-attribute plains.Vertex us = refl
  plain-attribute plains.Fragment us = refl
  plain-attribute plains.Compute us = refl
  plain-attribute plains.Publish us = refl
  plain-attribute plains.Else us = refl

  pub builtin-attribute : (us : List Token) → node child a_bare_attribute (symbol is.At ∷ name (codes "builtin") ∷ us) ≡ after (rows builtin_row us) (of_kind builtin)
  builtin-attribute us = refl

  pub diagnostic-attribute : (us : List Token) → node child a_bare_attribute (symbol is.At ∷ name (codes "diagnostic") ∷ us) ≡ after (rows diagnostic_row us) (of_kind diagnostic)
  diagnostic-attribute us = refl

  pub interpolate-attribute : (us : List Token) → node child a_bare_attribute (symbol is.At ∷ name (codes "interpolate") ∷ us) ≡ after (rows interpolate_row us) (of_kind interpolate)
  interpolate-attribute us = refl

  -- no word is behind `@`
  pub no-attribute : (ts : List Token) → begins_sign is.At ts ≡ true → word_first (behind_first ts) ≡ None → node child a_bare_attribute ts ≡ None
  no-attribute [] h w = cc
  no-attribute (t ∷ []) h w = subst (λ z. node child a_bare_attribute (z ∷ []) ≡ None) (sym (sign-is is.At t h)) refl
  no-attribute (t ∷ name u ∷ us) h w = cc
  no-attribute (t ∷ number u ∷ us) h w = subst (λ z. node child a_bare_attribute (z ∷ number u ∷ us) ≡ None) (sym (sign-is is.At t h)) refl
  no-attribute (t ∷ symbol a ∷ us) h w = subst (λ z. node child a_bare_attribute (z ∷ symbol a ∷ us) ≡ None) (sym (sign-is is.At t h)) refl
  no-attribute (t ∷ open_list ∷ us) h w = subst (λ z. node child a_bare_attribute (z ∷ open_list ∷ us) ≡ None) (sym (sign-is is.At t h)) refl
  no-attribute (t ∷ close_list ∷ us) h w = subst (λ z. node child a_bare_attribute (z ∷ close_list ∷ us) ≡ None) (sym (sign-is is.At t h)) refl

attribute-first : (n : ℕ) (t : Text) (ts : List Token) → begins_sign is.At ts ≡ true → word_first (behind_first ts) ≡ Some t → inner n a_bare_attribute ts ≡ attribute_at n t (behind_first (behind_first ts))
attribute-first n t [] h w = cc
attribute-first n t (a ∷ []) h w = cc
attribute-first n t (a ∷ name u ∷ us) h w = let same : u ≡ t = cc in ap (λ z. inner n a_bare_attribute (z ∷ name u ∷ us)) (sign-is is.At a h) ∙ ap (λ z. inner n a_bare_attribute (symbol is.At ∷ name z ∷ us)) same
attribute-first n t (a ∷ number u ∷ us) h w = cc
attribute-first n t (a ∷ symbol b ∷ us) h w = cc
attribute-first n t (a ∷ open_list ∷ us) h w = cc
attribute-first n t (a ∷ close_list ∷ us) h w = cc

-- ---- readers

-- the nodes that stand in an attribute
abbrev pub inside : ℕ → Sort → TreeReader
inside n = ranked (at_level n any) 0

pub attribute_begins : {s m k e : Reader} (t : Text) (made : Tree) → begins_sign is.At (ahead s) ≡ true → word_first (ahead m) ≡ Some t → ahead m ≡ behind_first (ahead s)
    → Skips (λ ts. Some (behind_first ts)) s m → Skips (λ ts. Some (behind_first ts)) m k → Reads (attribute_at k.levels t) made k e → Reads (inner s.levels a_bare_attribute) made s e
attribute_begins {s} {m} {k} {e} t made h w behind p q read =
    let here : Reads (attribute_at s.levels t) made k e = subst (λ (l : ℕ). Reads (attribute_at l t) made k e) (q.levels ∙ p.levels) read in
    seen (λ ns. attribute-first s.levels t (ahead s) h (ap word_first (sym behind) ∙ w)) (λ ns. refl)
    (next (under (λ ns (o : Option (List Token)). option_and_then (λ us. attribute_at s.levels t (behind_first us)) o) (λ ns. refl) p)
    (next (under (λ ns (o : Option (List Token)). option_and_then (attribute_at s.levels t) o) (λ ns. refl) q) here))

pub no_attribute : {s m e : Reader} {g : List Text → Read (TreeOf Text)} → begins_sign is.At (ahead s) ≡ true → word_first (ahead m) ≡ None → ahead m ≡ behind_first (ahead s)
    → Skips (λ ts. Some (behind_first ts)) s m → Refuses m e → Leads (λ _. inner s.levels a_bare_attribute (ahead s)) g s e
no_attribute {s} {m} {e} {g} h w behind p wrong =
    let F : List Text → Option (List Token) → Read (TreeOf Text) = λ ns o. option_and_then (λ us. None) o in
    seen (λ ns. no-attribute (inside s.levels) (ahead s) h (ap word_first (sym behind) ∙ w)) (λ ns. refl)
    (next (under F (λ ns. refl) p) (nothing_there wrong (λ ns. refl)))

module _ {s e : Reader} (n : ℕ) (f : Forest) where
  pub operand_attribute_read : (w : OperandWord) → RowLeads n operand_row f s e → Reads (attribute_at n (operand_text w)) (record { label = kind (operand_kind w); children = f }) s e
  operand_attribute_read w p = seen (λ ns. operand-attribute (inside n) w (ahead s)) (λ ns. refl) (under (λ ns (r : Read SpelledForest). after r (λ g us. Some (node_of (kind (operand_kind w)) g, us))) (λ ns. refl) p)

  pub builtin_read : RowLeads n builtin_row f s e → Reads (attribute_at n (codes "builtin")) (record { label = kind builtin; children = f }) s e
  builtin_read p = seen (λ ns. builtin-attribute (inside n) (ahead s)) (λ ns. refl) (under (λ ns (r : Read SpelledForest). after r (λ g us. Some (node_of (kind builtin) g, us))) (λ ns. refl) p)

  pub diagnostic_read : RowLeads n diagnostic_row f s e → Reads (attribute_at n (codes "diagnostic")) (record { label = kind diagnostic; children = f }) s e
  diagnostic_read p = seen (λ ns. diagnostic-attribute (inside n) (ahead s)) (λ ns. refl) (under (λ ns (r : Read SpelledForest). after r (λ g us. Some (node_of (kind diagnostic) g, us))) (λ ns. refl) p)

  pub interpolate_read : RowLeads n interpolate_row f s e → Reads (attribute_at n (codes "interpolate")) (record { label = kind interpolate; children = f }) s e
  interpolate_read p = seen (λ ns. interpolate-attribute (inside n) (ahead s)) (λ ns. refl) (under (λ ns (r : Read SpelledForest). after r (λ g us. Some (node_of (kind interpolate) g, us))) (λ ns. refl) p)

pub plain_read : {s : Reader} (n : ℕ) (w : PlainWord) → Reads (attribute_at n (plain_text w)) (branch (plain_kind w) []) s s
plain_read {s} n w = seen (λ ns. plain-attribute (inside n) w (ahead s)) (λ ns. refl) stay

-- ---- sizes

abbrev pub size_row : Row
size_row = sign is.Comma (own an_expression nothing)

abbrev sizes_end : Row
sizes_end = may_sym is.Comma (sign is.ParenRight nothing)

abbrev pub workgroup_row : Row
workgroup_row = sign is.ParenLeft (own an_expression (optional size_row (optional size_row sizes_end)))

-- whether nothing is read, or trees that fit
abbrev are_sizes : Read SpelledForest → Bool
are_sizes None = true
are_sizes (Some x) = fits (kind workgroup_size) x.0

module _ (child : Sort → TreeReader) where
  abbrev sizes : Row → ForestReader
  sizes = read_row child (read_part child)

  absent-sizes : (x : TreeOf Text) (r : Read SpelledForest) → are_sizes (and_others x (and_others (branch absent []) (and_others (branch absent []) r))) ≡ true
  absent-sizes x None = refl
  absent-sizes x (Some z) = refl

  present-rest : (x : TreeOf Text) (g : SpelledForest) (r : Read SpelledForest) → are_sizes (and_others x (and_others (node_of (kind present) g) r)) ≡ true
  present-rest x g None = refl
  present-rest x g (Some z) = refl

  present-sizes : (x : TreeOf Text) (r : Read SpelledForest) (k : List Token → Read SpelledForest) → are_sizes (and_others x (after r (λ g us. and_others (node_of (kind present) g) (k us)))) ≡ true
  present-sizes x None k = refl
  present-sizes x (Some y) k = present-rest x y.0 (k y.1)

  -- what is read behind the first size, by whether a second comes
  abbrev second : List Token → Bool → Bool → Read SpelledForest
  second vs b c = elim b as (λ _. Read SpelledForest) [
    | false ↦ and_others (branch absent []) (elim c as (λ _. Read SpelledForest) [ false ↦ and_others (branch absent []) (sizes sizes_end vs) | true ↦ after (sizes size_row vs) (λ f us. and_others (node_of (kind present) f) (sizes sizes_end us)) ])
    | true ↦ after (sizes size_row vs) (λ f us. and_others (node_of (kind present) f) (sizes (optional size_row sizes_end) us))
  ]

  second-sizes : (x : TreeOf Text) (vs : List Token) (b : Bool) → are_sizes (and_others x (second vs b b)) ≡ true
  second-sizes x vs false = absent-sizes x (sizes sizes_end vs)
  second-sizes x vs true = present-sizes x (sizes size_row vs) (sizes (optional size_row sizes_end))

  first-sizes : (r : Read (TreeOf Text)) → are_sizes (after r (λ t us. and_others t (sizes (optional size_row (optional size_row sizes_end)) us))) ≡ true
  first-sizes None = refl
  first-sizes (Some x) = second-sizes x.0 x.1 (begins_row child size_row x.1)

  open-sizes : (o : Option (List Token)) → are_sizes (option_and_then (sizes (own an_expression (optional size_row (optional size_row sizes_end)))) o) ≡ true
  open-sizes None = refl
  open-sizes (Some us) = first-sizes (child an_expression us)

  fit-by : (r : Read SpelledForest) → are_sizes r ≡ true → after r (λ f us. where_so (fits (kind workgroup_size) f && true) (node_of (kind workgroup_size) f) us) ≡ after r (of_kind child workgroup_size)
  fit-by None h = refl
  fit-by (Some x) h = ap (λ (b : Bool). where_so (b && true) (node_of (kind workgroup_size) x.0) x.1) h

  pub workgroup-attribute : (us : List Token) → node child a_bare_attribute (symbol is.At ∷ name (codes "workgroup_size") ∷ us) ≡ after (sizes workgroup_row us) (of_kind child workgroup_size)
  workgroup-attribute us = fit-by (sizes workgroup_row us) (open-sizes (behind_token (symbol is.ParenLeft) us))

-- ---- other words

words-among : {A : Type 0} (ps : List (Text × A)) (t : Text) → look_up t ps ≡ None → is_among (map (λ p. p.0) ps) t ≡ false
words-among [] t h = refl
words-among (p ∷ ps) t h = by (bytes_eq t p.0) h (words-among ps t)
  where
    by : (b : Bool) → (if b then Some p.1 else look_up t ps) ≡ None → (look_up t ps ≡ None → is_among (map (λ p. p.0) ps) t ≡ false) → b || is_among (map (λ p. p.0) ps) t ≡ false
    by true h ih = cc
    by false h ih = ih h

abbrev pub call_row : Row
call_row = sign is.ParenLeft (commas list an_expression (sign is.ParenRight nothing))

module _ (child : Sort → TreeReader) (t : Text) (us : List Token) where
  abbrev named_row : List Token → Read SpelledForest
  named_row = read_row child (read_part child) (optional call_row nothing)

  custom-by : (b : Bool) → b ≡ false → after (after (where_so (not b) (text t) us) (λ l vs. and_others (tree_leaf l) (named_row vs))) (λ f vs. where_so true (node_of (kind custom) f) vs) ≡ after (named_row us) (λ f vs. Some (node_of (kind custom) (before (tree_leaf (text t)) f), vs))
  custom-by true h = cc
  custom-by false h = after-others (tree_leaf (text t)) (named_row us) (λ f vs. where_so true (node_of (kind custom) f) vs)

  pub custom-attribute : look_up t words_of_attributes ≡ None → node child a_bare_attribute (symbol is.At ∷ name t ∷ us) ≡ after (named_row us) (λ f vs. Some (node_of (kind custom) (before (tree_leaf (text t)) f), vs))
  custom-attribute h =
      ap (λ o. read_node child (read_row child (read_part child)) a_bare_attribute (or_kind custom o) (symbol is.At ∷ name t ∷ us)) h
      ∙ custom-by (is_among known_attributes t) (words-among words_of_attributes t h)

pub workgroup_read : {s e : Reader} (n : ℕ) (f : Forest) → RowLeads n workgroup_row f s e → Reads (attribute_at n (codes "workgroup_size")) (record { label = kind workgroup_size; children = f }) s e
workgroup_read {s} {e} n f p = seen (λ ns. workgroup-attribute (inside n) (ahead s)) (λ ns. refl) (under (λ ns (r : Read SpelledForest). after r (λ g us. Some (node_of (kind workgroup_size) g, us))) (λ ns. refl) p)

pub custom_read : {s m e : Reader} (t x : Text) (arguments : Tree) → look_up t words_of_attributes ≡ None → Makes t x s m → Reads (may_at m.levels call_row) arguments m e → Reads (attribute_at s.levels t) (branch custom (tree_leaf (text x) ∷ arguments ∷ [])) s e
custom_read {s} {m} {e} t x arguments h makes read =
    let here : Reads (may_at s.levels call_row) arguments m e = subst (λ (l : ℕ). Reads (may_at l call_row) arguments m e) makes.levels read in
    let row : RowLeads s.levels (optional call_row nothing) (before arguments end) m e = row_optional s.levels call_row nothing arguments end here (row_ends s.levels) in
    let K : Text → SpelledForest → TreeOf Text = λ y f. node_of (kind custom) (before (tree_leaf (text y)) f) in
    let F : List Text → Read Text → Read (TreeOf Text) = λ ns r. after r (λ y us. after (row_at s.levels (optional call_row nothing) us) (λ f vs. Some (K y f, vs))) in
    let G : List Text → Read SpelledForest → Read (TreeOf Text) = λ ns r. after r (λ f vs. Some (K x f, vs)) in
    seen (λ ns. custom-attribute (inside s.levels) t (ahead s) h) (λ ns. refl) (next (under F (λ ns. refl) makes) (under G (λ ns. refl) row))

-- ---- attributes behind one another

no-run : (b : List Token → Bool) (one : TreeReader) (m : ℕ) (ts : List Token) → b ts ≡ false → all_of b one m ts ≡ Some (end, ts)
no-run b one zero ts h = ap (λ (c : Bool). let r : Read SpelledForest = if c then None else Some (end, ts) in r) h
no-run b one (suc m) ts h = ap (λ (c : Bool). elim c as (λ _. Read SpelledForest) [ false ↦ Some (end, ts) | true ↦ after (one ts) (λ t us. and_others t (all_of b one m us)) ]) h

no-room-run : (b : List Token → Bool) (one : TreeReader) (m : ℕ) (ts : List Token) → m ≡ 0 → b ts ≡ true → all_of b one m ts ≡ None
no-room-run b one m ts none h = ap (λ z. all_of b one z ts) none ∙ ap (λ (c : Bool). let r : Read SpelledForest = if c then None else Some (end, ts) in r) h

one-run : (b : List Token → Bool) (one : TreeReader) (m k : ℕ) (ts : List Token) → m ≡ suc k → b ts ≡ true → all_of b one m ts ≡ after (one ts) (λ t us. and_others t (all_of b one k us))
one-run b one m k ts is h = ap (λ z. all_of b one z ts) is ∙ ap (λ (c : Bool). elim c as (λ _. Read SpelledForest) [ false ↦ Some (end, ts) | true ↦ after (one ts) (λ t us. and_others t (all_of b one k us)) ]) h

module _ {A : Type 0} (view : A → Tree) (sort : Sort) (begins : List Token → Bool) where
  -- nodes have been read that stand behind one another
  abbrev pub Runs : ℕ → List A → Reader → Reader → Type 0
  Runs room items s e =
      Leads
      (λ _. all_of begins (inner s.levels sort) (length (ahead s)) (ahead s))
      (λ ns. behind_trees (map (λ x. respell (name_in ns) (view x)) items) (all_of begins (inner s.levels sort) room (ahead e)))
      s e

  pub run_begins : {s : Reader} (room : ℕ) → room ≡ length (ahead s) → Runs room [] s s
  run_begins {s} room is = seen (λ ns. ap (λ z. all_of begins (inner s.levels sort) z (ahead s)) (sym is) ∙ behind-none (all_of begins (inner s.levels sort) room (ahead s))) (λ ns. refl) stay

  pub run_more : {s m n e : Reader} (room less : ℕ) (items items_then : List A) (x : A) → room ≡ suc less → begins (ahead m) ≡ true
      → Runs room items s m → Reads (inner m.levels sort) (view x) m n → (e.fault ≡ None → items_then ≡ items ++ x ∷ []) → Keeps n e → Runs less items_then s e
  run_more {s} {m} {n} {e} room less items items_then x is h inv read put kept =
      let one : TreeReader = inner s.levels sort in
      let before_all : List Text → List (TreeOf Text) = λ ns. map (λ y. respell (name_in ns) (view y)) items in
      let here : Reads (inner s.levels sort) (view x) m n = subst (λ (l : ℕ). Reads (inner l sort) (view x) m n) inv.levels read in
      let F : List Text → Read (TreeOf Text) → Read SpelledForest = λ ns r. behind_trees (before_all ns) (after r (λ t us. and_others t (all_of begins one less us))) in
      next inv
      (seen (λ ns. ap (behind_trees (before_all ns)) (one-run begins one room less (ahead m) is h)) (λ ns. refl)
      (next (under F (λ ns. refl) here)
      (once_clear
      (λ clear ns. behind-more (before_all ns) (respell (name_in ns) (view x)) (all_of begins one less (ahead e))
      ∙ ap (λ z. behind_trees z (all_of begins one less (ahead e))) (sym (ap (λ z. map (λ y. respell (name_in ns) (view y)) z) (put clear) ∙ map-append (λ y. respell (name_in ns) (view y)) items (x ∷ []))))
      (keeping (λ z ns. behind_trees (before_all ns) (and_others (respell (name_in ns) (view x)) (all_of begins one less (ahead z)))) kept))))

  module _ (k : Kind) where
    -- all of them as one tree
    abbrev pub RunOf : List A → Reader → Reader → Type 0
    RunOf items s e =
        Leads
        (λ _. after (all_of begins (inner s.levels sort) (length (ahead s)) (ahead s)) (λ f us. Some (node_of (kind k) f, us)))
        (λ ns. Some (node_of (kind k) (respell_forest (name_in ns) (forest_of (map view items))), ahead e))
        s e

    pub run_ends : {s m : Reader} (room : ℕ) (items : List A) → begins (ahead m) ≡ false → Runs room items s m → RunOf items s m
    run_ends {s} {m} room items h inv =
        let F : List Text → Read SpelledForest → Read (TreeOf Text) = λ ns r. after r (λ f us. Some (node_of (kind k) f, us)) in
        seen (λ ns. refl)
        (λ ns. ap (λ r. F ns (behind_trees (map (λ x. respell (name_in ns) (view x)) items) r)) (no-run begins (inner s.levels sort) room (ahead m) h)
        ∙ ap (λ z. let r : Read (TreeOf Text) = Some (node_of (kind k) z, ahead m) in r) (joined-end (name_in ns) view items))
        (under F (λ ns. refl) inv)

    pub run_breaks : {s m e : Reader} (room : ℕ) (items : List A) → room ≡ 0 → begins (ahead m) ≡ true → Runs room items s m → Refuses m e → RunOf items s e
    run_breaks {s} {m} {e} room items none h inv wrong =
        let F : List Text → Read SpelledForest → Read (TreeOf Text) = λ ns r. after r (λ f us. Some (node_of (kind k) f, us)) in
        next (under F (λ ns. refl) inv) (nothing_there wrong (λ ns. ap (λ r. F ns (behind_trees (map (λ x. respell (name_in ns) (view x)) items) r)) (no-room-run begins (inner s.levels sort) room (ahead m) none h)))

span-by : (r : Read (TreeOf Text)) → after (after r (λ t us. and_others t (let f : Read SpelledForest = Some (end, us) in f))) (λ f us. where_so true (node_of (at attribute_node 0 0) f) us) ≡ after r (λ t us. Some (node_of (at attribute_node 0 0) (before t end), us))
span-by None = refl
span-by (Some x) = refl

span-read : (n : ℕ) (ts : List Token) → inner n an_attribute ts ≡ after (inner n a_bare_attribute ts) (λ t us. Some (node_of (at attribute_node 0 0) (before t end), us))
span-read n ts = span-by (inner n a_bare_attribute ts)

-- an attribute with its span
pub attribute_placed : {s e : Reader} (node_made : Attribute) (made : Spanned Attribute) → Reads (inner s.levels a_bare_attribute) (attribute_view node_made) s e → made.node ≡ node_made → Reads (inner s.levels an_attribute) (placed attribute_view attribute_node made) s e
attribute_placed {s} {e} node_made made read same =
    let F : List Text → Read (TreeOf Text) → Read (TreeOf Text) = λ ns r. after r (λ t us. Some (node_of (at attribute_node 0 0) (before t end), us)) in
    seen (λ ns. span-read s.levels (ahead s)) (λ ns. ap (λ z. let r : Read (TreeOf Text) = Some (node_of (at attribute_node 0 0) (before (respell (name_in ns) (attribute_view z)) end), ahead e) in r) (sym same)) (under F (λ ns. refl) read)
