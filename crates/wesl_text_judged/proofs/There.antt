-- What can be printed has statements whose attributes end before their targets, at every depth.
use Rattle.std.proofs.Common.{◌≡◌, Bool, true, false, not, ◌&&◌, if◌then◌else◌, List, [], ◌∷◌, Option, Some, None, option_map, option_and_then, is_some, refl, ap, ◌∙◌, codes}
use Rattle.std.proofs.lemmas.Bool.{and_parts}
use Rattle.wesl_tree_syntax.specs.Tree.{Kind, kind, at, end, tree, present, absent, list, statement_node, default_case}
use Rattle.wesl_text_tokens.specs.declared.symbol.Symbol.TheVariants as is
use Rattle.wesl_text_tokens.specs.Tokens.{symbol, open_list, close_list}
use Rattle.wesl_text_form.specs.Slots.{Slot, must, may, alone}
use Rattle.wesl_text_form.specs.Operators.{class_of, is_tight}
use Rattle.wesl_text_form.specs.Productions.{Sort, an_expression, a_selector, Row, nothing, sym, may_sym, says, opens, closes, own, leaf, run, commas, optional, inside, target, selectors, unended, arrow, row_of}
use Rattle.wesl_text_form.specs.Spelling.{Label, Forest, Slots, spells, followed, named, signed, trailing, leaf_slots, first_slots, row_slots, fits, stands_as, label_at, is_kind, is_wildcard, leads_to_place, is_lone_default, is_end, is_absent_at, without_last}
use Rattle.wesl_text_reading.proofs.Filled.{no_true}
use Rattle.wesl_text_reading.proofs.KindsAgain.{end_is, label_is}
use Rattle.wesl_text_respell.proofs.Follow.{Wild, wild_is}
use Rattle.wesl_text_respell.proofs.Units.{where_there}
use Rattle.wesl_text_left.specs.Apart.{ends_before_target}
use Rattle.wesl_text_left.proofs.Read.{both_there}
use Rattle.wesl_text_left.proofs.Begins.{ends_there}
use Rattle.wesl_text_judged.specs.Within.{all_end_within}

abbrev AreIn : Forest → Type 0
AreIn f = all_end_within f ≡ true

joined : (a b d : Bool) → a ≡ true → b ≡ true → d ≡ true → (a && (b && d)) ≡ true
joined a b d h g i = ap (λ z. z && (b && d)) h ∙ (ap (λ z. z && d) g ∙ i)

ends_alone : (l : Label) → ends_before_target l end ≡ true
ends_alone (at statement_node a b) = refl
ends_alone l = refl

-- a node with a kind alone is no statement with its span
ends_kind : (k : Kind) (l : Label) (c : Forest) → is_kind k (Some l) ≡ true → ends_before_target l c ≡ true
ends_kind k l c e = ap (λ z. ends_before_target z c) (label_is k l e)

pub mapped_there : (f : List Slot → List Slot) (a : Slots) → is_some (option_map f a) ≡ true → is_some a ≡ true
mapped_there f None h = absurd (no_true h)
mapped_there f (Some ss) h = refl

-- ---- what holds of trees

abbrev RowsIn : Forest → Type 0
RowsIn f = (r : Row) → is_some ((spells f).row r) ≡ true → AreIn f

abbrev AllIn : Forest → Type 0
AllIn f = (s : Sort) → is_some ((spells f).all s) ≡ true → AreIn f

abbrev SeparateIn : Forest → Type 0
SeparateIn f = (s : Sort) → is_some ((spells f).separate s) ≡ true → AreIn f

module _ (l : Label) (c o : Forest) (below : RowsIn c) (all : AllIn c) (separate : SeparateIn c) (later : RowsIn o) where
  first_in : (s : Sort) → is_some (first_slots l c (spells c) s) ≡ true → (ends_before_target l c ≡ true) × AreIn c
  first_in s h = (ends_there s l c h, by (row_of s l) h) where
    by : (o : Option Row) → is_some (option_and_then (λ r. if fits l c && stands_as s l c then (spells c).row r else None) o) ≡ true → AreIn c
    by None h = absurd (no_true h)
    by (Some r) h = below r (where_there (fits l c && stands_as s l c) ((spells c).row r) h).1

  whole_in : (ends_before_target l c ≡ true) → AreIn c → AreIn o → AreIn (tree l c o)
  whole_in e h g = joined (ends_before_target l c) (all_end_within c) (all_end_within o) e h g

  one_in : (s : Sort) → is_some (first_slots l c (spells c) s) ≡ true → AreIn o → AreIn (tree l c o)
  one_in s h g = let x : (ends_before_target l c ≡ true) × AreIn c = first_in s h in whole_in x.0 x.1 g

  -- with nothing below it
  leaf_in : is_end c ≡ true → AreIn o → AreIn (tree l c o)
  leaf_in e g = whole_in (ap (λ z. ends_before_target l z) (end_is c e) ∙ ends_alone l) (ap all_end_within (end_is c e)) g

  wild_in : Wild l c → AreIn o → AreIn (tree l c o)
  wild_in x g = whole_in (ap (λ z. ends_before_target z c) x.0) (ap all_end_within x.1) g

  rest_there : (a : Slots) (row : Row) → is_some (followed a ((spells o).row row)) ≡ true → AreIn o
  rest_there a row h = later row (both_there a ((spells o).row row) h).1

  tree_in : RowsIn (tree l c o)
  tree_in nothing h = absurd (no_true h)
  tree_in (sym s row) h = tree_in row (both_there (Some (signed s ∷ [])) (row_slots l c o (spells c) (spells o) row) h).1
  tree_in (may_sym s row) h = tree_in row (both_there (Some (may (symbol s) ∷ [])) (row_slots l c o (spells c) (spells o) row) h).1
  tree_in (says w row) h = tree_in row (both_there (Some (named w ∷ [])) (row_slots l c o (spells c) (spells o) row) h).1
  tree_in (opens row) h = tree_in row (both_there (Some (must open_list ∷ [])) (row_slots l c o (spells c) (spells o) row) h).1
  tree_in (closes row) h = tree_in row (both_there (Some (must close_list ∷ [])) (row_slots l c o (spells c) (spells o) row) h).1
  tree_in (own s row) h =
      let x : (is_some (first_slots l c (spells c) s) ≡ true) × (is_some ((spells o).row row) ≡ true) = both_there (first_slots l c (spells c) s) ((spells o).row row) h in
      one_in s x.0 (later row x.1)
  tree_in (leaf f row) h =
      let x : (is_end c ≡ true) × (is_some (followed (leaf_slots f l o) ((spells o).row row)) ≡ true) = where_there (is_end c) (followed (leaf_slots f l o) ((spells o).row row)) h in
      leaf_in x.0 (rest_there (leaf_slots f l o) row x.1)
  tree_in (run k s row) h =
      let x : (is_kind k (Some l) ≡ true) × (is_some (followed ((spells c).all s) ((spells o).row row)) ≡ true) = where_there (is_kind k (Some l)) (followed ((spells c).all s) ((spells o).row row)) h in
      whole_in (ends_kind k l c x.0) (all s (both_there ((spells c).all s) ((spells o).row row) x.1).0) (rest_there ((spells c).all s) row x.1)
  tree_in (commas k s row) h =
      let a : Slots = option_map trailing ((spells c).separate s) in
      let x : (is_kind k (Some l) ≡ true) × (is_some (followed a ((spells o).row row)) ≡ true) = where_there (is_kind k (Some l)) (followed a ((spells o).row row)) h in
      whole_in (ends_kind k l c x.0) (separate s (mapped_there trailing ((spells c).separate s) (both_there a ((spells o).row row) x.1).0)) (rest_there a row x.1)
  tree_in (optional ins row) h = by (is_kind absent (Some l) && is_end c) refl h where
    by : (z : Bool) → (is_kind absent (Some l) && is_end c) ≡ z
        → is_some (if z then (spells o).row row else if is_kind present (Some l) then followed ((spells c).row ins) ((spells o).row row) else None) ≡ true → AreIn (tree l c o)
    by true e g = leaf_in (and_parts (is_kind absent (Some l)) (is_end c) e).1 (later row g)
    by false e g =
        let x : (is_kind present (Some l) ≡ true) × (is_some (followed ((spells c).row ins) ((spells o).row row)) ≡ true) = where_there (is_kind present (Some l)) (followed ((spells c).row ins) ((spells o).row row)) g in
        whole_in (ends_kind present l c x.0) (below ins (both_there ((spells c).row ins) ((spells o).row row) x.1).0) (rest_there ((spells c).row ins) row x.1)
  tree_in (inside k ins row) h =
      let x : (is_kind k (Some l) ≡ true) × (is_some (followed ((spells c).row ins) ((spells o).row row)) ≡ true) = where_there (is_kind k (Some l)) (followed ((spells c).row ins) ((spells o).row row)) h in
      whole_in (ends_kind k l c x.0) (below ins (both_there ((spells c).row ins) ((spells o).row row) x.1).0) (rest_there ((spells c).row ins) row x.1)
  tree_in (target row) h = by (is_wildcard l c) refl h where
    by : (z : Bool) → is_wildcard l c ≡ z
        → is_some (if z then followed (Some (named (codes "_") ∷ [])) ((spells o).row row) else if is_tight (class_of (label_at 0 c)) && leads_to_place c then followed (first_slots l c (spells c) an_expression) ((spells o).row row) else None) ≡ true
        → AreIn (tree l c o)
    by true e g = wild_in (wild_is l c e) (rest_there (Some (named (codes "_") ∷ [])) row g)
    by false e g =
        let a : Slots = first_slots l c (spells c) an_expression in
        let x : is_some (followed a ((spells o).row row)) ≡ true = (where_there (is_tight (class_of (label_at 0 c)) && leads_to_place c) (followed a ((spells o).row row)) g).1 in
        one_in an_expression (both_there a ((spells o).row row) x).0 (rest_there a row x)
  tree_in (selectors row) h = by (is_kind list (Some l)) refl (is_lone_default c) refl h where
    by : (y : Bool) → is_kind list (Some l) ≡ y → (z : Bool) → is_lone_default c ≡ z
        → is_some (if not y then None else if z then followed (Some (alone ∷ [])) ((spells o).row row) else followed (Some (named (codes "case") ∷ [])) (followed (option_map trailing ((spells c).separate a_selector)) ((spells o).row row))) ≡ true
        → AreIn (tree l c o)
    by false q z e g = absurd (no_true g)
    by true q true e g = whole_in (ends_kind list l c q) (lone_in c e) (rest_there (Some (alone ∷ [])) row g) where
      lone_in : (c : Forest) → is_lone_default c ≡ true → AreIn c
      lone_in (tree (kind default_case) end end) e = refl
      lone_in c e = absurd (no_true e)
    by true q false e g =
        let a : Slots = option_map trailing ((spells c).separate a_selector) in
        let x : is_some (followed a ((spells o).row row)) ≡ true = (both_there (Some (named (codes "case") ∷ [])) (followed a ((spells o).row row)) g).1 in
        whole_in (ends_kind list l c q) (separate a_selector (mapped_there trailing ((spells c).separate a_selector) (both_there a ((spells o).row row) x).0)) (rest_there a row x)
  tree_in (unended s row) h =
      let a : Slots = option_map without_last (first_slots l c (spells c) s) in
      one_in s (mapped_there without_last (first_slots l c (spells c) s) (both_there a ((spells o).row row) h).0) (rest_there a row h)
  tree_in (arrow row) h = by (is_absent_at 0 o) (λ g. tree_in row g) h where
    by : (z : Bool) → (is_some (row_slots l c o (spells c) (spells o) row) ≡ true → AreIn (tree l c o))
        → is_some (if z then (if is_end c then row_slots l c o (spells c) (spells o) row else None) else followed (Some (signed is.Arrow ∷ [])) (row_slots l c o (spells c) (spells o) row)) ≡ true → AreIn (tree l c o)
    by true f g = f (where_there (is_end c) (row_slots l c o (spells c) (spells o) row) g).1
    by false f g = f (both_there (Some (signed is.Arrow ∷ [])) (row_slots l c o (spells c) (spells o) row) g).1

  all_in : AllIn o → AllIn (tree l c o)
  all_in more s h =
      let x : (is_some (first_slots l c (spells c) s) ≡ true) × (is_some ((spells o).all s) ≡ true) = both_there (first_slots l c (spells c) s) ((spells o).all s) h in
      one_in s x.0 (more s x.1)

separate_in : (l : Label) (c o : Forest) → RowsIn c → AllIn c → SeparateIn c → RowsIn o → SeparateIn o → SeparateIn (tree l c o)
separate_in l c end below all separate later more s h = one_in l c end below all separate later s h refl
separate_in l c (tree m d p) below all separate later more s h =
    let a : Slots = (spells (tree m d p)).separate s in
    let x : (is_some (first_slots l c (spells c) s) ≡ true) × (is_some (option_map (λ ss. signed is.Comma ∷ ss) a) ≡ true) = both_there (first_slots l c (spells c) s) (option_map (λ ss. signed is.Comma ∷ ss) a) h in
    one_in l c (tree m d p) below all separate later s x.0 (more s (mapped_there (λ ss. signed is.Comma ∷ ss) a x.1))

pub there_in : (f : Forest) → RowsIn f × AllIn f × SeparateIn f
there_in end = ((λ r h. refl), (λ s h. refl), (λ s h. refl))
there_in (tree l c o) = by (there_in c) (there_in o) where
  by : RowsIn c × AllIn c × SeparateIn c → RowsIn o × AllIn o × SeparateIn o → RowsIn (tree l c o) × AllIn (tree l c o) × SeparateIn (tree l c o)
  by x y = (tree_in l c o x.0 x.1 x.2 y.0, all_in l c o x.0 x.1 x.2 y.0 y.1, separate_in l c o x.0 x.1 x.2 y.0 y.2)
