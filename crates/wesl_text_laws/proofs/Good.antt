-- What has slots has no spans, each of its identifiers is alone, its types begin with a path or with none, and its assignments with
-- attributes.
use Rattle.std.proofs.Common.{◌≡◌, zero, suc, Bool, true, false, not, ◌&&◌, if◌then◌else◌, [], ◌∷◌, Option, Some, None, option_map, option_and_then, refl, sym as turned, ap, ◌∙◌, subst, codes}
use Rattle.wesl_tree_syntax.specs.Tree.{Kind, kind, at, ident, text, texts, truth, path, assignment, end, tree, reference, present, absent, attributes, list, type_expression, type_or_identifier, expression_node, default_case}
use Rattle.wesl_tree_syntax.specs.Kinds.{same_kind}
use Rattle.wesl_tree_syntax.specs.declared.statement.AssignmentOperator.TheVariants as assignment_operator
use Rattle.wesl_text_tokens.specs.declared.symbol.Symbol.TheVariants as is
use Rattle.wesl_text_tokens.specs.Tokens.{symbol, open_list, close_list}
use Rattle.wesl_text_form.specs.Slots.{must, may, alone}
use Rattle.wesl_text_form.specs.Operators.{class_of, is_tight}
use Rattle.wesl_text_form.specs.Productions.{Sort, an_expression, a_type, an_argument, an_attribute, a_statement, a_bare_statement, a_selector, Leaf, an_ident, an_item, a_name, a_word, a_custom, a_literal, a_rule, some_words, one_or_two, steps, a_path, Row, nothing, sym, may_sym, says, opens, closes, own, leaf, run, commas, optional, inside, target, selectors, unended, arrow, attrs, row_of}
use Rattle.wesl_text_form.specs.Spelling.{Label, Forest, Slots, spells, followed, named, signed, trailing, leaf_slots, first_slots, row_slots, row_of_none, with_comma, fits, stands_as, label_at, is_kind, is_underscore, is_wildcard, leads_to_place, is_lone_default, is_end, is_absent_at, without_last}
use Rattle.wesl_text_reading.proofs.Filled.{no_some, of_some, no_true}
use Rattle.wesl_text_reading.proofs.KindsAgain.{label_is}
use Rattle.wesl_text_respell.proofs.Trees.{is_fair, rows_fair}
use Rattle.std.proofs.lemmas.Bool.{and_from, and_parts}
use Rattle.wesl_text_reading.proofs.Classes.{denied}

-- a path alone
abbrev pub is_path_leaf : Forest → Bool
is_path_leaf (tree (path q) end end) = true
is_path_leaf f = false

-- a path that is there, or none
abbrev pub begins_well : Forest → Bool
begins_well (tree (kind present) c o) = is_path_leaf c
begins_well (tree (kind absent) c o) = is_end c
begins_well f = false

-- attributes first
abbrev pub begins_attributes : Forest → Bool
begins_attributes (tree (kind attributes) c o) = true
begins_attributes f = false

abbrev pub good_label : Label → Forest → Bool
good_label (at k zero zero) c = true
good_label (at k s e) c = false
good_label (ident r x) c = is_end c
good_label (kind type_expression) c = begins_well c
good_label (assignment assignment_operator.Equal) c = begins_attributes c
good_label l c = true

abbrev pub is_good : Forest → Bool
is_good end = true
is_good (tree l c o) = good_label l c && (is_good c && is_good o)

-- a test holds where there are slots
abbrev pub Good : Bool → Slots → Type 0
Good b None = Unit {0}
Good b (Some ss) = b ≡ true

pub good_true : (b : Bool) (a : Slots) → b ≡ true → Good b a
good_true b None h = tt
good_true b (Some ss) h = h

pub good_more : (x z : Bool) (a : Slots) → (x ≡ true → z ≡ true) → Good x a → Good z a
good_more x z None f h = tt
good_more x z (Some ss) f h = f h

pub good_joined : (x y z : Bool) (a c : Slots) → (x ≡ true → y ≡ true → z ≡ true) → Good x a → Good y c → Good z (followed a c)
good_joined x y z None c f h g = tt
good_joined x y z (Some ss) None f h g = tt
good_joined x y z (Some ss) (Some us) f h g = f h g

good_none : (z : Bool) (a : Slots) → Good z (followed a None)
good_none z None = tt
good_none z (Some ss) = tt

pub good_either : (z b : Bool) (x y : Slots) → (b ≡ true → Good z x) → (b ≡ false → Good z y) → Good z (if b then x else y)
good_either z true x y f g = f refl
good_either z false x y f g = g refl

pub good_trailing : (z : Bool) (a : Slots) → Good z a → Good z (option_map trailing a)
good_trailing z None h = tt
good_trailing z (Some ss) h = h

pub good_cut : (z : Bool) (a : Slots) → Good z a → Good z (option_map without_last a)
good_cut z None h = tt
good_cut z (Some ss) h = h

pub good_comma : (z : Bool) (a : Slots) → Good z a → Good z (option_map (λ ss. signed is.Comma ∷ ss) a)
good_comma z None h = tt
good_comma z (Some ss) h = h

all_so : (a b d : Bool) → (a && b) ≡ true → d ≡ true → (a && (b && d)) ≡ true
all_so a b d h g = let x : (a ≡ true) × (b ≡ true) = and_parts a b h in and_from a (b && d) x.0 (and_from b d x.1 g)

-- ---- labels

good_kind : (k : Kind) (c : Forest) → same_kind k type_expression ≡ false → good_label (kind k) c ≡ true
good_kind type_expression c h = absurd (no_true (turned h))
good_kind k c h = refl

kind_good : (k : Kind) (l : Label) (c : Forest) → same_kind k type_expression ≡ false → is_kind k (Some l) ≡ true → good_label l c ≡ true
kind_good k l c h e = ap (λ z. good_label z c) (label_is k l e) ∙ good_kind k c h

end_good : (c : Forest) → is_end c ≡ true → is_good c ≡ true
end_good end h = refl
end_good (tree l c o) h = absurd (no_true h)

leaf_label : (f : Leaf) (l : Label) (o : Forest) → Good (good_label l end) (leaf_slots f l o)
leaf_label (an_ident r) (ident q t) o = good_true true (leaf_slots (an_ident r) (ident q t) o) refl
leaf_label an_item (ident q t) o = good_true true (leaf_slots an_item (ident q t) o) refl
leaf_label a_name (text t) o = good_true true (leaf_slots a_name (text t) o) refl
leaf_label a_word (text t) o = good_true true (leaf_slots a_word (text t) o) refl
leaf_label a_custom (text t) o = good_true true (leaf_slots a_custom (text t) o) refl
leaf_label a_literal (truth b) o = refl
leaf_label a_literal (text t) o = good_true true (leaf_slots a_literal (text t) o) refl
leaf_label a_rule (text t) o = good_true true (leaf_slots a_rule (text t) o) refl
leaf_label some_words (texts ts) o = good_true true (leaf_slots some_words (texts ts) o) refl
leaf_label one_or_two (texts ts) o = good_true true (leaf_slots one_or_two (texts ts) o) refl
leaf_label steps (texts ts) o = good_true true (leaf_slots steps (texts ts) o) refl
leaf_label (a_path slashes) (path p) o = good_true true (leaf_slots (a_path slashes) (path p) o) refl
leaf_label f l o = tt

leaf_good : (f : Leaf) (l : Label) (c o : Forest) → is_end c ≡ true → Good (good_label l c && is_good c) (leaf_slots f l o)
leaf_good f l end o h = good_more (good_label l end) (good_label l end && true) (leaf_slots f l o) (λ e. and_from (good_label l end) true e refl) (leaf_label f l o)
leaf_good f l (tree m d p) o h = absurd (no_true h)

-- ---- types

path_good : (c : Forest) → Good (is_path_leaf c) ((spells c).row (leaf (a_path false) nothing))
path_good end = tt
path_good (tree (path q) end end) = good_true true ((spells (tree (path q) end end)).row (leaf (a_path false) nothing)) refl
path_good (tree (path q) end (tree m d p)) = good_none false (leaf_slots (a_path false) (path q) (tree m d p))
path_good (tree l end o) = tt
path_good (tree l (tree m d p) o) = tt

abbrev name_row : Row
name_row = leaf (an_ident reference) (optional (opens (commas list an_argument (closes nothing))) nothing)

abbrev type_row : Row
type_row = optional (leaf (a_path false) nothing) name_row

type_good : (c : Forest) → Good (begins_well c) ((spells c).row type_row)
type_good end = tt
type_good (tree l c o) =
    good_either (begins_well (tree l c o)) (is_kind absent (Some l) && is_end c) ((spells o).row name_row) (if is_kind present (Some l) then followed ((spells c).row (leaf (a_path false) nothing)) ((spells o).row name_row) else None)
    (λ e. let x : (is_kind absent (Some l) ≡ true) × (is_end c ≡ true) = and_parts (is_kind absent (Some l)) (is_end c) e in good_true (begins_well (tree l c o)) ((spells o).row name_row) (ap (λ z. begins_well (tree z c o)) (label_is absent l x.0) ∙ x.1))
    (λ e. good_either (begins_well (tree l c o)) (is_kind present (Some l)) (followed ((spells c).row (leaf (a_path false) nothing)) ((spells o).row name_row)) None
    (λ g. good_joined (is_path_leaf c) true (begins_well (tree l c o)) ((spells c).row (leaf (a_path false) nothing)) ((spells o).row name_row) (λ a b. ap (λ z. begins_well (tree z c o)) (label_is present l g) ∙ a) (path_good c) (good_true true ((spells o).row name_row) refl)) (λ g. tt))

-- ---- assignments

attributes_good : (row : Row) (c : Forest) → Good (begins_attributes c) ((spells c).row (attrs row))
attributes_good row end = tt
attributes_good row (tree l c o) =
    good_either (begins_attributes (tree l c o)) (is_kind attributes (Some l)) (followed ((spells c).all an_attribute) ((spells o).row row)) None
    (λ e. good_true (begins_attributes (tree l c o)) (followed ((spells c).all an_attribute) ((spells o).row row)) (ap (λ z. begins_attributes (tree z c o)) (label_is attributes l e))) (λ e. tt)

abbrev target_row : Row
target_row = target (sym is.Equal (own an_expression (sym is.Semicolon nothing)))

-- a node with these children
label_good : (l : Label) (s : Sort) (c : Forest) (x : Row) → row_of s l ≡ Some x → Good (good_label l c) ((spells c).row x)
label_good (kind type_expression) a_type c x e = subst (λ z. Good (begins_well c) ((spells c).row z)) (of_some type_row x e) (type_good c)
label_good (kind type_expression) s c x e = absurd (no_some x e)
label_good (assignment assignment_operator.Equal) a_bare_statement c x e = subst (λ z. Good (begins_attributes c) ((spells c).row z)) (of_some (attrs target_row) x e) (attributes_good target_row c)
label_good (assignment assignment_operator.Equal) s c x e = absurd (no_some x e)
label_good (at k zero zero) s c x e = good_true true ((spells c).row x) refl
label_good (at k zero (suc f)) an_expression c x e = absurd (no_some x e)
label_good (at k zero (suc f)) s c x e = absurd (no_some x e)
label_good (at k (suc a) f) an_expression c x e = absurd (no_some x e)
label_good (at k (suc a) f) s c x e = absurd (no_some x e)
label_good (ident r y) an_expression c x e = absurd (no_some x e)
label_good (ident r y) s c x e = absurd (no_some x e)
label_good l s c x e = good_true true ((spells c).row x) refl

-- ---- `_`, and the selector `default` alone

wild_good : (l : Label) (c : Forest) → is_wildcard l c ≡ true → (good_label l c && is_good c) ≡ true
wild_good (at expression_node zero zero) (tree (kind type_or_identifier) (tree (kind type_expression) (tree (kind absent) end (tree m end (tree (kind absent) end end))) end) end) h = by m h where
  by : (m : Label) → is_underscore m ≡ true → is_good (tree (kind type_or_identifier) (tree (kind type_expression) (tree (kind absent) end (tree m end (tree (kind absent) end end))) end) end) ≡ true
  by (ident reference t) h = refl
  by m h = absurd (no_true h)
wild_good l c h = absurd (no_true h)

lone_good : (c : Forest) → is_lone_default c ≡ true → is_good c ≡ true
lone_good (tree (kind default_case) end end) h = refl
lone_good c h = absurd (no_true h)

-- ---- trees

abbrev RowsGood : Forest → Type 0
RowsGood f = (r : Row) → is_fair r ≡ true → Good (is_good f) ((spells f).row r)

abbrev SeparateGood : Forest → Type 0
SeparateGood f = (s : Sort) → Good (is_good f) ((spells f).separate s)

abbrev AllGood : Forest → Type 0
AllGood f = (s : Sort) → Good (is_good f) ((spells f).all s)

module _ (l : Label) (c o : Forest) (below : RowsGood c) (separate : SeparateGood c) (all : AllGood c) (later : RowsGood o) (others : SeparateGood o) where
  abbrev whole : Bool
  whole = good_label l c && (is_good c && is_good o)

  first_good : (s : Sort) → Good (good_label l c && is_good c) (first_slots l c (spells c) s)
  first_good s = by (row_of s l) (λ x e. both (good_label l c) (is_good c) ((spells c).row x) (label_good l s c x e) (below x (rows_fair s l x e))) where
    both : (a b : Bool) (x : Slots) → Good a x → Good b x → Good (a && b) x
    both a b None h g = tt
    both a b (Some ss) h g = and_from a b h g

    by : (q : Option Row) → ((x : Row) → q ≡ Some x → Good (good_label l c && is_good c) ((spells c).row x))
        → Good (good_label l c && is_good c) (option_and_then (λ r. if fits l c && stands_as s l c then (spells c).row r else None) q)
    by None f = tt
    by (Some x) f = good_either (good_label l c && is_good c) (fits l c && stands_as s l c) ((spells c).row x) None (λ e. f x refl) (λ e. tt)

  own_good : (a : Slots) (b : Slots) → Good (good_label l c && is_good c) a → Good (is_good o) b → Good whole (followed a b)
  own_good a b h g = good_joined (good_label l c && is_good c) (is_good o) whole a b (λ x y. all_so (good_label l c) (is_good c) (is_good o) x y) h g

  kind_so : (a : Slots) (b : Slots) → good_label l c ≡ true → Good (is_good c) a → Good (is_good o) b → Good whole (followed a b)
  kind_so a b e h g = good_joined (is_good c) (is_good o) whole a b (λ x y. all_so (good_label l c) (is_good c) (is_good o) (and_from (good_label l c) (is_good c) e x) y) h g

  tree_good : RowsGood (tree l c o)
  tree_good nothing h = tt
  tree_good (sym s row) h = good_joined true whole whole (Some (signed s ∷ [])) (row_slots l c o (spells c) (spells o) row) (λ a b. b) refl (tree_good row h)
  tree_good (may_sym s row) h = good_joined true whole whole (Some (may (symbol s) ∷ [])) (row_slots l c o (spells c) (spells o) row) (λ a b. b) refl (tree_good row h)
  tree_good (says w row) h = good_joined true whole whole (Some (named w ∷ [])) (row_slots l c o (spells c) (spells o) row) (λ a b. b) refl (tree_good row h)
  tree_good (opens row) h = good_joined true whole whole (Some (must open_list ∷ [])) (row_slots l c o (spells c) (spells o) row) (λ a b. b) refl (tree_good row h)
  tree_good (closes row) h = good_joined true whole whole (Some (must close_list ∷ [])) (row_slots l c o (spells c) (spells o) row) (λ a b. b) refl (tree_good row h)
  tree_good (own s row) h = own_good (first_slots l c (spells c) s) ((spells o).row row) (first_good s) (later row h)
  tree_good (leaf f row) h = good_either whole (is_end c) (followed (leaf_slots f l o) ((spells o).row row)) None (λ e. own_good (leaf_slots f l o) ((spells o).row row) (leaf_good f l c o e) (later row h)) (λ e. tt)
  tree_good (run k s row) h =
      let x : (not (same_kind k type_expression) ≡ true) × (is_fair row ≡ true) = and_parts (not (same_kind k type_expression)) (is_fair row) h in
      good_either whole (is_kind k (Some l)) (followed ((spells c).all s) ((spells o).row row)) None
      (λ e. kind_so ((spells c).all s) ((spells o).row row) (kind_good k l c (denied (same_kind k type_expression) x.0) e) (all s) (later row x.1)) (λ e. tt)
  tree_good (commas k s row) h =
      let x : (not (same_kind k type_expression) ≡ true) × (is_fair row ≡ true) = and_parts (not (same_kind k type_expression)) (is_fair row) h in
      good_either whole (is_kind k (Some l)) (followed (option_map trailing ((spells c).separate s)) ((spells o).row row)) None
      (λ e. kind_so (option_map trailing ((spells c).separate s)) ((spells o).row row) (kind_good k l c (denied (same_kind k type_expression) x.0) e) (good_trailing (is_good c) ((spells c).separate s) (separate s)) (later row x.1)) (λ e. tt)
  tree_good (optional ins row) h =
      let x : (is_fair ins ≡ true) × (is_fair row ≡ true) = and_parts (is_fair ins) (is_fair row) h in
      good_either whole (is_kind absent (Some l) && is_end c) ((spells o).row row) (if is_kind present (Some l) then followed ((spells c).row ins) ((spells o).row row) else None)
      (λ e. let y : (is_kind absent (Some l) ≡ true) × (is_end c ≡ true) = and_parts (is_kind absent (Some l)) (is_end c) e in
      good_more (is_good o) whole ((spells o).row row) (λ g. all_so (good_label l c) (is_good c) (is_good o) (and_from (good_label l c) (is_good c) (kind_good absent l c refl y.0) (end_good c y.1)) g) (later row x.1))
      (λ e. good_either whole (is_kind present (Some l)) (followed ((spells c).row ins) ((spells o).row row)) None
      (λ g. kind_so ((spells c).row ins) ((spells o).row row) (kind_good present l c refl g) (below ins x.0) (later row x.1)) (λ g. tt))
  tree_good (inside k ins row) h =
      let x : (not (same_kind k type_expression) ≡ true) × ((is_fair ins && is_fair row) ≡ true) = and_parts (not (same_kind k type_expression)) (is_fair ins && is_fair row) h in
      let y : (is_fair ins ≡ true) × (is_fair row ≡ true) = and_parts (is_fair ins) (is_fair row) x.1 in
      good_either whole (is_kind k (Some l)) (followed ((spells c).row ins) ((spells o).row row)) None
      (λ e. kind_so ((spells c).row ins) ((spells o).row row) (kind_good k l c (denied (same_kind k type_expression) x.0) e) (below ins y.0) (later row y.1)) (λ e. tt)
  tree_good (target row) h =
      good_either whole (is_wildcard l c) (followed (Some (named (codes "_") ∷ [])) ((spells o).row row))
      (if is_tight (class_of (label_at 0 c)) && leads_to_place c then followed (first_slots l c (spells c) an_expression) ((spells o).row row) else None)
      (λ e. own_good (Some (named (codes "_") ∷ [])) ((spells o).row row) (wild_good l c e) (later row h))
      (λ e. good_either whole (is_tight (class_of (label_at 0 c)) && leads_to_place c) (followed (first_slots l c (spells c) an_expression) ((spells o).row row)) None
      (λ g. own_good (first_slots l c (spells c) an_expression) ((spells o).row row) (first_good an_expression) (later row h)) (λ g. tt))
  tree_good (selectors row) h =
      good_either whole (not (is_kind list (Some l))) None
      (if is_lone_default c then followed (Some (alone ∷ [])) ((spells o).row row) else followed (Some (named (codes "case") ∷ [])) (followed (option_map trailing ((spells c).separate a_selector)) ((spells o).row row)))
      (λ e. tt)
      (λ e. good_either whole (is_lone_default c) (followed (Some (alone ∷ [])) ((spells o).row row)) (followed (Some (named (codes "case") ∷ [])) (followed (option_map trailing ((spells c).separate a_selector)) ((spells o).row row)))
      (λ g. kind_so (Some (alone ∷ [])) ((spells o).row row) (kind_good list l c refl (of_not (is_kind list (Some l)) e)) (lone_good c g) (later row h))
      (λ g. good_joined true whole whole (Some (named (codes "case") ∷ [])) (followed (option_map trailing ((spells c).separate a_selector)) ((spells o).row row)) (λ a b. b) refl
      (kind_so (option_map trailing ((spells c).separate a_selector)) ((spells o).row row) (kind_good list l c refl (of_not (is_kind list (Some l)) e)) (good_trailing (is_good c) ((spells c).separate a_selector) (separate a_selector)) (later row h)))) where
        of_not : (b : Bool) → not b ≡ false → b ≡ true
        of_not true g = refl
        of_not false g = absurd (no_true (turned g))
  tree_good (unended a_statement row) h = own_good (option_map without_last (first_slots l c (spells c) a_statement)) ((spells o).row row) (good_cut (good_label l c && is_good c) (first_slots l c (spells c) a_statement) (first_good a_statement)) (later row h)
  tree_good (unended s row) h = absurd (no_true h)
  tree_good (arrow row) h =
      good_either whole (is_absent_at 0 o) (if is_end c then row_slots l c o (spells c) (spells o) row else None) (followed (Some (signed is.Arrow ∷ [])) (row_slots l c o (spells c) (spells o) row))
      (λ e. good_either whole (is_end c) (row_slots l c o (spells c) (spells o) row) None (λ g. tree_good row h) (λ g. tt))
      (λ e. good_joined true whole whole (Some (signed is.Arrow ∷ [])) (row_slots l c o (spells c) (spells o) row) (λ a b. b) refl (tree_good row h))

  separate_good : SeparateGood (tree l c o)
  separate_good s = by o (others s) where
    by : (o : Forest) → Good (is_good o) ((spells o).separate s) → Good (good_label l c && (is_good c && is_good o)) (with_comma (first_slots l c (spells c) s) o ((spells o).separate s))
    by end h = good_more (good_label l c && is_good c) (good_label l c && (is_good c && true)) (first_slots l c (spells c) s) (λ e. all_so (good_label l c) (is_good c) true e refl) (first_good s)
    by (tree m d p) h = good_joined (good_label l c && is_good c) (is_good (tree m d p)) (good_label l c && (is_good c && is_good (tree m d p))) (first_slots l c (spells c) s) (option_map (λ ss. signed is.Comma ∷ ss) ((spells (tree m d p)).separate s))
        (λ x y. all_so (good_label l c) (is_good c) (is_good (tree m d p)) x y) (first_good s) (good_comma (is_good (tree m d p)) ((spells (tree m d p)).separate s) h)

record TreesGood (f : Forest) : Type 0 where
  pub row : RowsGood f
  pub separate : SeparateGood f
  pub all : AllGood f

trees_good : (f : Forest) → TreesGood f
trees_good end = record { row = λ r h. good_true true (row_of_none r) refl; separate = λ s. refl; all = λ s. refl }
trees_good (tree l c o) = by (trees_good c) (trees_good o) where
  by : TreesGood c → TreesGood o → TreesGood (tree l c o)
  by x y = record {
    row = tree_good l c o x.row x.separate x.all y.row y.separate;
    separate = separate_good l c o x.row x.separate x.all y.row y.separate;
    all = λ s. own_good l c o x.row x.separate x.all y.row y.separate (first_slots l c (spells c) s) ((spells o).all s) (first_good l c o x.row x.separate x.all y.row y.separate s) (y.all s);
  }

-- what has slots by a row
pub rows_are_good : (f : Forest) (r : Row) → is_fair r ≡ true → Good (is_good f) ((spells f).row r)
rows_are_good f = (trees_good f).row
