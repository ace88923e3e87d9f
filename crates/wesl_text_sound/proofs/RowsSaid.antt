-- What is read by a row is said by the row.
use Rattle.std.proofs.Common.{◌≡◌, Bool, true, false, not, ◌&&◌, if◌then◌else◌, List, [], ◌∷◌, length, Some, None, option_and_then, option_map, refl, sym as turned, ap, ◌∙◌, subst, codes, bytes_eq}
use Rattle.std.specs.Str.{chars}
use Rattle.std.proofs.lemmas.Slice.Eq.{bytes_eq-Decides}
use Rattle.wesl_tree_names.specs.Path.{Text}
use Rattle.wesl_tree_syntax.specs.Tree.{binder, word, kind, end, tree, TreeOf, before, leaf as tree_leaf, branch, present, absent, list}
use Rattle.wesl_text_tokens.specs.declared.symbol.Symbol.{Symbol}
use Rattle.wesl_text_tokens.specs.declared.symbol.Symbol.TheVariants as is
use Rattle.wesl_text_tokens.specs.Tokens.{Token, name, symbol, open_list, close_list}
use Rattle.wesl_text_form.specs.Slots.{must, may, alone, same_token, behind_token, behind_if_there, comes_first, left}
use Rattle.wesl_text_form.specs.Productions.{Sort, an_expression, a_selector, a_statement, Leaf, an_item, a_path, Row, nothing, sym, may_sym, says, opens, closes, own, leaf, run, commas, optional, inside, target, selectors, unended, arrow}
use Rattle.wesl_text_form.specs.Operators.{class_of, is_tight}
use Rattle.wesl_text_form.specs.Spelling.{Label, Forest, Slots, spells, followed, named, signed, is_absent_at, item_role, trailing, leaf_slots, first_slots, row_slots, label_at, is_kind, is_wildcard, leads_to_place, is_lone_default, without_last, is_end}
use Rattle.wesl_text_reading.specs.Leaves.{Read, after, where_so, item_role_by, read_leaf}
use Rattle.wesl_text_reading.specs.FirstTokens.{begins_word, begins_sign, behind_first}
use Rattle.wesl_text_reading.specs.Reading.{Reader, node_of, and_others, all_of, separate_of, begins_child, begins_row, wildcard, read_target, lone_default, read_selectors, read_row}
use Rattle.wesl_text_sound.specs.Laws.{AreTokens}
use Rattle.wesl_text_reading.proofs.Filled.{no_some, of_some, no_true, fill, parts, both, stands}
use Rattle.wesl_text_reading.proofs.Chains.{expression_parts}
use Rattle.wesl_text_reading.proofs.RowReads.{target_slots, selector_slots}
use Rattle.wesl_text_reading.proofs.Types.{must_first}
use Rattle.wesl_text_sound.proofs.TakenApart.{with_rest, after_some, others_some, token_some, where_some, fill_must, fill_may, fill_keeps, must_rest, may_rest}
use Rattle.wesl_text_sound.proofs.LeavesSaid.{LeafSaid, item_said, leaf_said}
use Rattle.wesl_text_sound.proofs.PathsSaid.{path_said}
use Rattle.wesl_text_sound.proofs.ListsSaid.{IsSound, IsSoundPart, RowSaid, kind_self, all_said, is_first, separate_said}
use Rattle.std.proofs.lemmas.Bool.{and_parts}
use Rattle.wesl_text_reading.proofs.Clauses.{lone_is}
use Rattle.wesl_text_reading.proofs.Simple.{wild_is}

-- ---- which rows

-- an option that begins with `as`: by it a leaf before it is told
abbrev is_as : Row → Bool
is_as (optional (says w ins) row) = bytes_eq w (codes "as")
is_as _ = false

-- whether a leaf is told where it stands: a path where it is known to begin
abbrev is_told : Bool → Leaf → Row → Bool
is_told b an_item row = is_as row
is_told b (a_path slashes) row = b
is_told b f row = true

abbrev is_statement : Sort → Bool
is_statement a_statement = true
is_statement _ = false

-- rows of which what is read is said, where they are known to begin or not
abbrev pub is_said : Bool → Row → Bool
is_said b nothing = true
is_said b (sym s row) = is_said false row
is_said b (may_sym s row) = is_said false row
is_said b (says w row) = is_said false row
is_said b (opens row) = is_said false row
is_said b (closes row) = is_said false row
is_said b (own s row) = is_said false row
is_said b (leaf f row) = is_told b f row && is_said false row
is_said b (run k s row) = is_said false row
is_said b (commas k s row) = is_said false row
is_said b (optional ins row) = is_said true ins && is_said false row
is_said b (inside k ins row) = is_said false ins && is_said false row
is_said b (target row) = is_said false row
is_said b (selectors row) = is_said false row
is_said b (unended s row) = is_statement s && is_said false row
is_said b (arrow (run k s row)) = is_said false row
is_said b (arrow row) = false

-- ---- rows

-- the slots of a token before those of a row
sym_row : (f : Forest) (s : Symbol) (row : Row) → (spells f).row (sym s row) ≡ followed (Some (signed s ∷ [])) ((spells f).row row)
sym_row end s row = refl
sym_row (tree l c o) s row = refl

may_row : (f : Forest) (s : Symbol) (row : Row) → (spells f).row (may_sym s row) ≡ followed (Some (may (symbol s) ∷ [])) ((spells f).row row)
may_row end s row = refl
may_row (tree l c o) s row = refl

says_row : (f : Forest) (w : Text) (row : Row) → (spells f).row (says w row) ≡ followed (Some (named w ∷ [])) ((spells f).row row)
says_row end w row = refl
says_row (tree l c o) w row = refl

opens_row : (f : Forest) (row : Row) → (spells f).row (opens row) ≡ followed (Some (must open_list ∷ [])) ((spells f).row row)
opens_row end row = refl
opens_row (tree l c o) row = refl

closes_row : (f : Forest) (row : Row) → (spells f).row (closes row) ≡ followed (Some (must close_list ∷ [])) ((spells f).row row)
closes_row end row = refl
closes_row (tree l c o) row = refl

-- no expression is `_`
no_underscore : (child : Sort → Reader) (ts us : List Token) → fill (first_slots (wildcard child).label (wildcard child).children (spells (wildcard child).children) an_expression) ts ≡ Some us → ⊥
unfolding chars
no_underscore child ts us h = no_some us h

not_wild : (child : Sort → Reader) (l : Label) (c : Forest) (ts us : List Token) → fill (first_slots l c (spells c) an_expression) ts ≡ Some us → is_wildcard l c ≡ false
not_wild child l c ts us h = by (is_wildcard l c) refl where
  by : (b : Bool) → is_wildcard l c ≡ b → b ≡ false
  by false e = refl
  by true e = absurd (no_underscore child ts us (subst (λ t. fill (first_slots t.label t.children (spells t.children) an_expression) ts ≡ Some us) (wild_is child l c e) h))

module _ (child : Sort → Reader) (part : Sort → Reader) (nodes : (s : Sort) → IsSound (child s) s) (parted : IsSoundPart (part a_statement)) where
  -- what was read, and others behind it
  joins : {A : Type 0} (made : A → TreeOf Text) (r : Read A) (here : A → Forest → Slots) (row whole : Row) (ts : List Token) (y : Forest × List Token) → AreTokens ts
      → ((x : A × List Token) (z : Forest × List Token) → r ≡ Some x → read_row child part row x.1 ≡ Some z → fill (here x.0 z.0) ts ≡ Some x.1)
      → ((x : A) (o : Forest) (us : List Token) → fill (followed (here x o) ((spells o).row row)) ts ≡ Some us → fill ((spells (before (made x) o)).row whole) ts ≡ Some us)
      → ((vs : List Token) (z : Forest × List Token) → AreTokens vs → read_row child part row vs ≡ Some z → RowSaid row vs z)
      → after r (λ a us. and_others (made a) (read_row child part row us)) ≡ Some y → RowSaid whole ts y
  joins {A} made r here row whole ts y a said form later h =
      let x : (x : A × List Token) × (r ≡ Some x) × (and_others (made x.0) (read_row child part row x.1) ≡ Some y) = after_some r (λ a us. and_others (made a) (read_row child part row us)) y h in
      let z : (z : Forest × List Token) × (read_row child part row x.0.1 ≡ Some z) × (with_rest (before (made x.0.0) z.0) z.1 ≡ y) = others_some (made x.0.0) (read_row child part row x.0.1) y x.2 in
      let f : fill (here x.0.0 z.0.0) ts ≡ Some x.0.1 = said x.0 z.0 x.1 z.1 in
      let g : RowSaid row x.0.1 z.0 = later x.0.1 z.0 (fill_keeps (here x.0.0 z.0.0) ts x.0.1 a f) z.1 in
      subst (λ w. RowSaid whole ts w) z.2 (form x.0.0 z.0.0 z.0.1 (both (here x.0.0 z.0.0) ((spells z.0.0).row row) ts x.0.1 z.0.1 f g))

  abbrev Later : Row → Type 0
  Later row = (vs : List Token) (z : Forest × List Token) → AreTokens vs → read_row child part row vs ≡ Some z → RowSaid row vs z

  -- a leaf, by what stands behind it
  role_behind : (row : Row) → is_as row ≡ true → (vs : List Token) (z : Forest × List Token) → read_row child part row vs ≡ Some z → item_role z.0 ≡ item_role_by vs
  role_behind (optional (says w ins) row) e vs z h = by (begins_word w vs) refl h where
    same_word : begins_word w vs ≡ comes_first (name (codes "as")) vs
    same_word = ap (λ u. begins_word u vs) ((bytes_eq-Decides w (codes "as")).0 e)

    by : (b : Bool) → begins_word w vs ≡ b → elim b as (λ _. Read Forest) [
      | false ↦ and_others (branch absent []) (read_row child part row vs)
      | true ↦ after (read_row child part (says w ins) vs) (λ f us. and_others (node_of (kind present) f) (read_row child part row us))
    ] ≡ Some z → item_role z.0 ≡ item_role_by vs
    by false q g =
        let x : (x : Forest × List Token) × (read_row child part row vs ≡ Some x) × (with_rest (before (branch absent []) x.0) x.1 ≡ z) = others_some (branch absent []) (read_row child part row vs) z g in
        turned (ap (λ w. item_role w.0) x.2) ∙ ap (λ b. if b then word else binder) (turned q ∙ same_word)
    by true q g =
        let x : (x : Forest × List Token) × (read_row child part (says w ins) vs ≡ Some x) × (and_others (node_of (kind present) x.0) (read_row child part row x.1) ≡ Some z) = after_some (read_row child part (says w ins) vs) (λ f us. and_others (node_of (kind present) f) (read_row child part row us)) z g in
        let y : (y : Forest × List Token) × (read_row child part row x.0.1 ≡ Some y) × (with_rest (before (node_of (kind present) x.0.0) y.0) y.1 ≡ z) = others_some (node_of (kind present) x.0.0) (read_row child part row x.0.1) z x.2 in
        turned (ap (λ w. item_role w.0) y.2) ∙ ap (λ b. if b then word else binder) (turned q ∙ same_word)
  role_behind r e vs z h = absurd (no_true e)

  leaf_here : (f : Leaf) (row : Row) (b : Bool) → is_told b f row ≡ true → (ts : List Token) → AreTokens ts → (b ≡ true → begins_row child (leaf f row) ts ≡ true) → (x : Label × List Token) (z : Forest × List Token) → read_leaf f ts ≡ Some x → read_row child part row x.1 ≡ Some z → LeafSaid f z.0 ts x
  leaf_here an_item row b o ts a k x z h g = item_said z.0 ts x a (role_behind row o x.1 z g) h
  leaf_here (a_path slashes) row b o ts a k x z h g = path_said slashes z.0 ts x a (k o) h
  leaf_here f row b o ts a k x z h g = leaf_said f refl z.0 ts x a h

  -- a target, and selectors
  target_here : (ts : List Token) → AreTokens ts → (x : TreeOf Text × List Token) → read_target child ts ≡ Some x → fill (target_slots x.0.label x.0.children) ts ≡ Some x.1
  target_here ts a x h = by (begins_word (codes "_") ts) refl h where
    by : (b : Bool) → begins_word (codes "_") ts ≡ b → (if b then Some (wildcard child, behind_first ts) else after (child an_expression ts) (λ t us. where_so (is_tight (class_of (label_at 0 t.children)) && leads_to_place (before t end)) t us)) ≡ Some x → fill (target_slots x.0.label x.0.children) ts ≡ Some x.1
    by true e g =
        subst (λ w. fill (target_slots w.0.label w.0.children) ts ≡ Some w.1) (of_some (with_rest (wildcard child) (behind_first ts)) x g)
        (ap (λ b. option_and_then (left []) (behind_token (name (codes "_")) b)) (is_first (name (codes "_")) ts e))
    by false e g =
        let y : (y : TreeOf Text × List Token) × (child an_expression ts ≡ Some y) × (where_so (is_tight (class_of (label_at 0 y.0.children)) && leads_to_place (before y.0 end)) y.0 y.1 ≡ Some x) = after_some (child an_expression ts) (λ t us. where_so (is_tight (class_of (label_at 0 t.children)) && leads_to_place (before t end)) t us) x g in
        let w : ((is_tight (class_of (label_at 0 y.0.0.children)) && leads_to_place (before y.0.0 end)) ≡ true) × (y.0 ≡ x) = where_some (is_tight (class_of (label_at 0 y.0.0.children)) && leads_to_place (before y.0.0 end)) y.0.0 y.0.1 x y.2 in
        subst (λ w. fill (target_slots w.0.label w.0.children) ts ≡ Some w.1) w.1 (placed y.0.0.label y.0.0.children y.0.1 (nodes an_expression ts y.0 a y.1) w.0) where
          placed : (l : Label) (c : Forest) (us : List Token) → fill (first_slots l c (spells c) an_expression) ts ≡ Some us → (is_tight (class_of (label_at 0 c)) && leads_to_place (tree l c end)) ≡ true → fill (target_slots l c) ts ≡ Some us
          placed l c us f t =
              ap (λ b. fill (if b then Some (named (codes "_") ∷ []) else if is_tight (class_of (label_at 0 c)) && leads_to_place c then first_slots l c (spells c) an_expression else None) ts) (not_wild child l c ts us f)
              ∙ (ap (λ b. fill (if b then first_slots l c (spells c) an_expression else None) ts) (ap (λ m. is_tight (class_of (label_at 0 c)) && leads_to_place (tree m c end)) (turned (expression_parts l c ts us f).0) ∙ t) ∙ f)

  selectors_here : (ts : List Token) → AreTokens ts → (x : Forest × List Token) → read_selectors child ts ≡ Some x → fill (selector_slots x.0) ts ≡ Some x.1
  selectors_here ts a x h = by (begins_word (codes "default") ts) refl h where
    -- `default` alone
    default_first : (us : List Token) → begins_word (codes "default") us ≡ true → left (alone ∷ []) us ≡ Some (behind_first us)
    default_first [] e = absurd (no_true e)
    default_first (t ∷ us) e = ap (λ b. option_and_then (left []) (if b then Some us else if same_token (name (codes "case")) t && comes_first (name (codes "default")) us then Some (behind_if_there (symbol is.Comma) (behind_if_there (name (codes "default")) us)) else None)) e

    -- those behind `case`: `default` alone is the same without it
    behind_case : (vs : List Token) (f : Forest) (us : List Token) → ts ≡ name (codes "case") ∷ vs → fill (option_map trailing ((spells f).separate a_selector)) vs ≡ Some us → (b : Bool) → is_lone_default f ≡ b → fill (selector_slots f) ts ≡ Some us
    behind_case vs f us q g false e =
        ap (λ b. fill (if b then Some (alone ∷ []) else followed (Some (named (codes "case") ∷ [])) (option_map trailing ((spells f).separate a_selector))) ts) e
        ∙ fill_must (name (codes "case")) (option_map trailing ((spells f).separate a_selector)) ts vs us (ap (λ z. behind_token (name (codes "case")) z) q) g
    behind_case vs f us q g true e =
        let m : (ws : List Token) × (vs ≡ name (codes "default") ∷ ws) × (left (may (symbol is.Comma) ∷ []) ws ≡ Some us) = must_first (name (codes "default")) (may (symbol is.Comma) ∷ []) vs us (subst (λ z. fill (option_map trailing ((spells z).separate a_selector)) vs ≡ Some us) (lone_is child f e) g) in
        ap (λ b. fill (if b then Some (alone ∷ []) else followed (Some (named (codes "case") ∷ [])) (option_map trailing ((spells f).separate a_selector))) ts) e
        ∙ (ap (λ z. left (alone ∷ []) z) (q ∙ ap (λ z. name (codes "case") ∷ z) m.1) ∙ m.2)

    by : (b : Bool) → begins_word (codes "default") ts ≡ b → (if b then Some (lone_default child, behind_first ts) else option_and_then (λ us. separate_of (begins_child child a_selector) (child a_selector) (length us) us) (behind_token (name (codes "case")) ts)) ≡ Some x → fill (selector_slots x.0) ts ≡ Some x.1
    by true e g = subst (λ w. fill (selector_slots w.0) ts ≡ Some w.1) (of_some (with_rest (lone_default child) (behind_first ts)) x g) (default_first ts e)
    by false e g =
        let y : (vs : List Token) × (behind_token (name (codes "case")) ts ≡ Some vs) × (separate_of (begins_child child a_selector) (child a_selector) (length vs) vs ≡ Some x) = token_some (behind_token (name (codes "case")) ts) (λ us. separate_of (begins_child child a_selector) (child a_selector) (length us) us) x g in
        behind_case y.0 x.0 x.1 (stands (name (codes "case")) ts y.0 y.1)
        (separate_said a_selector (begins_child child a_selector) (child a_selector) (nodes a_selector) (length y.0) y.0 x (must_rest (name (codes "case")) ts y.0 a y.1) y.2).0 (is_lone_default x.0) refl

  pub row_said : (r : Row) (b : Bool) → is_said b r ≡ true → (ts : List Token) (y : Forest × List Token) → AreTokens ts → (b ≡ true → begins_row child r ts ≡ true) → read_row child part r ts ≡ Some y → RowSaid r ts y
  row_said nothing b o ts y a k h = subst (λ w. RowSaid nothing ts w) (of_some (with_rest end ts) y h) refl
  row_said (sym s row) b o ts y a k h =
      let x : (vs : List Token) × (behind_token (symbol s) ts ≡ Some vs) × (read_row child part row vs ≡ Some y) = token_some (behind_token (symbol s) ts) (read_row child part row) y h in
      ap (λ z. fill z ts) (sym_row y.0 s row) ∙ fill_must (symbol s) ((spells y.0).row row) ts x.0 y.1 x.1 (row_said row false o x.0 y (must_rest (symbol s) ts x.0 a x.1) (λ e. absurd (no_true e)) x.2)
  row_said (may_sym s row) b o ts y a k h =
      ap (λ z. fill z ts) (may_row y.0 s row) ∙ fill_may (symbol s) ((spells y.0).row row) ts y.1 (row_said row false o (behind_if_there (symbol s) ts) y (may_rest (symbol s) ts a) (λ e. absurd (no_true e)) h)
  row_said (says w row) b o ts y a k h =
      let x : (vs : List Token) × (behind_token (name w) ts ≡ Some vs) × (read_row child part row vs ≡ Some y) = token_some (behind_token (name w) ts) (read_row child part row) y h in
      ap (λ z. fill z ts) (says_row y.0 w row) ∙ fill_must (name w) ((spells y.0).row row) ts x.0 y.1 x.1 (row_said row false o x.0 y (must_rest (name w) ts x.0 a x.1) (λ e. absurd (no_true e)) x.2)
  row_said (opens row) b o ts y a k h =
      let x : (vs : List Token) × (behind_token open_list ts ≡ Some vs) × (read_row child part row vs ≡ Some y) = token_some (behind_token open_list ts) (read_row child part row) y h in
      ap (λ z. fill z ts) (opens_row y.0 row) ∙ fill_must open_list ((spells y.0).row row) ts x.0 y.1 x.1 (row_said row false o x.0 y (must_rest open_list ts x.0 a x.1) (λ e. absurd (no_true e)) x.2)
  row_said (closes row) b o ts y a k h =
      let x : (vs : List Token) × (behind_token close_list ts ≡ Some vs) × (read_row child part row vs ≡ Some y) = token_some (behind_token close_list ts) (read_row child part row) y h in
      ap (λ z. fill z ts) (closes_row y.0 row) ∙ fill_must close_list ((spells y.0).row row) ts x.0 y.1 x.1 (row_said row false o x.0 y (must_rest close_list ts x.0 a x.1) (λ e. absurd (no_true e)) x.2)
  row_said (own s row) b o ts y a k h =
      joins (λ t. t) (child s ts) (λ t o. first_slots t.label t.children (spells t.children) s) row (own s row) ts y a (λ x z g q. nodes s ts x a g) (λ x p us g. g) (λ vs z d g. row_said row false o vs z d (λ e. absurd (no_true e)) g) h
  row_said (leaf f row) b o ts y a k h =
      let d : (is_told b f row ≡ true) × (is_said false row ≡ true) = and_parts (is_told b f row) (is_said false row) o in
      joins (λ l. tree_leaf l) (read_leaf f ts) (λ l o. leaf_slots f l o) row (leaf f row) ts y a (λ x z g q. leaf_here f row b d.0 ts a k x z g q) (λ x p us g. g) (λ vs z c g. row_said row false d.1 vs z c (λ e. absurd (no_true e)) g) h
  row_said (run j s row) b o ts y a k h =
      joins (λ f. node_of (kind j) f) (all_of (begins_child child s) (child s) (length ts) ts) (λ f o. (spells f).all s) row (run j s row) ts y a (λ x z g q. all_said s (begins_child child s) (child s) (nodes s) (length ts) ts x a g)
      (λ x p us g. ap (λ c. fill (if c then followed ((spells x).all s) ((spells p).row row) else None) ts) (kind_self j) ∙ g) (λ vs z d g. row_said row false o vs z d (λ e. absurd (no_true e)) g) h
  row_said (commas j s row) b o ts y a k h =
      joins (λ f. node_of (kind j) f) (separate_of (begins_child child s) (child s) (length ts) ts) (λ f o. option_map trailing ((spells f).separate s)) row (commas j s row) ts y a (λ x z g q. (separate_said s (begins_child child s) (child s) (nodes s) (length ts) ts x a g).0)
      (λ x p us g. ap (λ c. fill (if c then followed (option_map trailing ((spells x).separate s)) ((spells p).row row) else None) ts) (kind_self j) ∙ g) (λ vs z d g. row_said row false o vs z d (λ e. absurd (no_true e)) g) h
  row_said (optional ins row) b o ts y a k h =
      let d : (is_said true ins ≡ true) × (is_said false row ≡ true) = and_parts (is_said true ins) (is_said false row) o in
      by (λ q x g. row_said ins true d.0 ts x a (λ e. q) g) (λ vs z c g. row_said row false d.1 vs z c (λ e. absurd (no_true e)) g) (begins_row child ins ts) refl h where
        by : (begins_row child ins ts ≡ true → (x : Forest × List Token) → read_row child part ins ts ≡ Some x → RowSaid ins ts x) → Later row → (z : Bool) → begins_row child ins ts ≡ z → elim z as (λ _. Read Forest) [
          | false ↦ and_others (branch absent []) (read_row child part row ts)
          | true ↦ after (read_row child part ins ts) (λ f us. and_others (node_of (kind present) f) (read_row child part row us))
        ] ≡ Some y → RowSaid (optional ins row) ts y
        by below later false q g =
            let z : (z : Forest × List Token) × (read_row child part row ts ≡ Some z) × (with_rest (before (branch absent []) z.0) z.1 ≡ y) = others_some (branch absent []) (read_row child part row ts) y g in
            subst (λ w. RowSaid (optional ins row) ts w) z.2 (later ts z.0 a z.1)
        by below later true q g = joins (λ f. node_of (kind present) f) (read_row child part ins ts) (λ f o. (spells f).row ins) row (optional ins row) ts y a (λ x z c e. below q x c) (λ x p us c. c) later g
  row_said (inside j ins row) b o ts y a k h =
      let d : (is_said false ins ≡ true) × (is_said false row ≡ true) = and_parts (is_said false ins) (is_said false row) o in
      joins (λ f. node_of (kind j) f) (read_row child part ins ts) (λ f o. (spells f).row ins) row (inside j ins row) ts y a (λ x z g q. row_said ins false d.0 ts x a (λ e. absurd (no_true e)) g)
      (λ x p us g. ap (λ c. fill (if c then followed ((spells x).row ins) ((spells p).row row) else None) ts) (kind_self j) ∙ g) (λ vs z c g. row_said row false d.1 vs z c (λ e. absurd (no_true e)) g) h
  row_said (target row) b o ts y a k h =
      joins (λ t. t) (read_target child ts) (λ t o. target_slots t.label t.children) row (target row) ts y a (λ x z g q. target_here ts a x g) (λ x p us g. as_target x.label x.children p us g) (λ vs z d g. row_said row false o vs z d (λ e. absurd (no_true e)) g) h where
        split : (w t : Bool) (f g : Slots) (p : Slots) → (if w then followed f p else if t then followed g p else None) ≡ followed (if w then f else if t then g else None) p
        split true t f g p = refl
        split false true f g p = refl
        split false false f g p = refl

        as_target : (l : Label) (c p : Forest) (us : List Token) → fill (followed (target_slots l c) ((spells p).row row)) ts ≡ Some us → fill ((spells (tree l c p)).row (target row)) ts ≡ Some us
        as_target l c p us g = ap (λ z. fill z ts) (split (is_wildcard l c) (is_tight (class_of (label_at 0 c)) && leads_to_place c) (Some (named (codes "_") ∷ [])) (first_slots l c (spells c) an_expression) ((spells p).row row)) ∙ g
  row_said (selectors row) b o ts y a k h =
      joins (λ f. node_of (kind list) f) (read_selectors child ts) (λ f o. selector_slots f) row (selectors row) ts y a (λ x z g q. selectors_here ts a x g) (λ x p us g. as_selectors x p us g) (λ vs z d g. row_said row false o vs z d (λ e. absurd (no_true e)) g) h where
        split : (w : Bool) (f g t p : Slots) (us : List Token) → fill (followed (if w then f else followed g t) p) ts ≡ Some us → fill (if w then followed f p else followed g (followed t p)) ts ≡ Some us
        split true f g t p us c = c
        split false f g t p us c =
            let x : (vs : List Token) × (fill (followed g t) ts ≡ Some vs) × (fill p vs ≡ Some us) = parts (followed g t) p ts us c in
            let z : (vs : List Token) × (fill g ts ≡ Some vs) × (fill t vs ≡ Some x.0) = parts g t ts x.0 x.1 in
            both g (followed t p) ts z.0 us z.1 (both t p z.0 x.0 us z.2 x.2)

        as_selectors : (c p : Forest) (us : List Token) → fill (followed (selector_slots c) ((spells p).row row)) ts ≡ Some us → fill ((spells (tree (kind list) c p)).row (selectors row)) ts ≡ Some us
        as_selectors c p us g = split (is_lone_default c) (Some (alone ∷ [])) (Some (named (codes "case") ∷ [])) (option_map trailing ((spells c).separate a_selector)) ((spells p).row row) us g
  row_said (unended a_statement row) b o ts y a k h =
      joins (λ t. t) (part a_statement ts) (λ t o. option_map without_last (first_slots t.label t.children (spells t.children) a_statement)) row (unended a_statement row) ts y a (λ x z g q. parted ts x a g) (λ x p us g. g)
      (λ vs z d g. row_said row false o vs z d (λ e. absurd (no_true e)) g) h
  row_said (arrow (run j s row)) b o ts y a k h = by (λ vs z d g. row_said row false o vs z d (λ e. absurd (no_true e)) g) (λ vs z d g. row_said (run j s row) false o vs z d (λ e. absurd (no_true e)) g) (begins_sign is.Arrow ts) refl h where
    -- `->`, and a child that is there behind the next one
    there : (f : Forest) (us vs : List Token) → ts ≡ symbol is.Arrow ∷ vs → not (is_absent_at 1 f) ≡ true → RowSaid (run j s row) vs (with_rest f us) → RowSaid (arrow (run j s row)) ts (with_rest f us)
    there end us vs q e g = absurd (no_some us g)
    there (tree l c p) us vs q e g = choose (is_absent_at 0 p) refl e where
      run_slots : Slots
      run_slots = row_slots l c p (spells c) (spells p) (run j s row)

      choose : (z : Bool) → is_absent_at 0 p ≡ z → not z ≡ true → RowSaid (arrow (run j s row)) ts (with_rest (tree l c p) us)
      choose true d n = absurd (no_true n)
      choose false d n =
          ap (λ z. fill (if z then (if is_end c then run_slots else None) else followed (Some (signed is.Arrow ∷ [])) run_slots) ts) d
          ∙ fill_must (symbol is.Arrow) run_slots ts vs us (ap (λ z. behind_token (symbol is.Arrow) z) q) g

    by : Later row → Later (run j s row) → (z : Bool) → begins_sign is.Arrow ts ≡ z → elim z as (λ _. Read Forest) [
      | false ↦ after (read_row child part row ts) (λ f us. where_so (is_absent_at 0 f) (before (branch j []) f) us)
      | true ↦ after (read_row child part (run j s row) (behind_first ts)) (λ f us. where_so (not (is_absent_at 1 f)) f us)
    ] ≡ Some y → RowSaid (arrow (run j s row)) ts y
    by later whole false q g =
        let x : (x : Forest × List Token) × (read_row child part row ts ≡ Some x) × (where_so (is_absent_at 0 x.0) (before (branch j []) x.0) x.1 ≡ Some y) = after_some (read_row child part row ts) (λ f us. where_so (is_absent_at 0 f) (before (branch j []) f) us) y g in
        let w : (is_absent_at 0 x.0.0 ≡ true) × (with_rest (before (branch j []) x.0.0) x.0.1 ≡ y) = where_some (is_absent_at 0 x.0.0) (before (branch j []) x.0.0) x.0.1 y x.2 in
        let run_slots : Slots = if is_kind j (Some (kind j)) then followed (Some []) ((spells x.0.0).row row) else None in
        subst (λ z. RowSaid (arrow (run j s row)) ts z) w.1
        (ap (λ z. fill (if z then run_slots else followed (Some (signed is.Arrow ∷ [])) run_slots) ts) w.0
        ∙ (ap (λ z. fill (if z then followed (Some []) ((spells x.0.0).row row) else None) ts) (kind_self j) ∙ both (Some []) ((spells x.0.0).row row) ts ts x.0.1 refl (later ts x.0 a x.1)))
    by later whole true q g =
        let x : (x : Forest × List Token) × (read_row child part (run j s row) (behind_first ts) ≡ Some x) × (where_so (not (is_absent_at 1 x.0)) x.0 x.1 ≡ Some y) = after_some (read_row child part (run j s row) (behind_first ts)) (λ f us. where_so (not (is_absent_at 1 f)) f us) y g in
        let w : (not (is_absent_at 1 x.0.0) ≡ true) × (with_rest x.0.0 x.0.1 ≡ y) = where_some (not (is_absent_at 1 x.0.0)) x.0.0 x.0.1 y x.2 in
        let p : ts ≡ symbol is.Arrow ∷ behind_first ts = is_first (symbol is.Arrow) ts q in
        let b : AreTokens (symbol is.Arrow ∷ behind_first ts) = subst AreTokens p a in
        subst (λ z. RowSaid (arrow (run j s row)) ts z) w.1 (there x.0.0 x.0.1 (behind_first ts) p w.0 (whole (behind_first ts) x.0 b.1 x.1))
  row_said r b o ts y a k h = absurd (no_true o)
