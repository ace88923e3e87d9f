-- Trees in which no fault stands, by their parts.
use Rattle.std.proofs.Common.{◌≡◌, Bool, true, false, cond, List, [], ◌∷◌, ◌⊎◌, inl, inr, refl, sym, ap, ◌∙◌, subst}
use Rattle.wesl_cond_chains.specs.Chains.{staying}
use Rattle.wesl_cond_chains.specs.Conditions.{is_list, with_attributes}
use Rattle.wesl_cond_chains.specs.Faults.{Stands, here, inside, beside, list_faults, list_at, closed_list}
use Rattle.wesl_cond_chains.specs.Lists.{Element, element, goes_back, back, is_closed, option_of, closed, judged, is_entered, holds_body}
use Rattle.wesl_cond_chains.proofs.Kept.{Each}
use Rattle.wesl_cond_chains.proofs.Passing.{not_entered, closed_with}
use Rattle.wesl_cond_chains.specs.FormulaFaults.{Fault, IsAmong}
use Rattle.wesl_cond_features.specs.Features.{Replies, known}
use Rattle.wesl_tree_syntax.specs.Nodes.{is_attributes}
use Rattle.wesl_tree_syntax.specs.Tree.{LabelOf, ForestOf, end, tree, kind, compound, statements, present, absent}

module _ {I : Type 0} (reply : Replies I) where
  abbrev pub stay : List (Element I) → List (Element I)
  stay = staying element (known reply)

  -- no fault stands
  abbrev pub Clear : Bool → ForestOf I → Type 0
  Clear held t = (f : Fault I) → Stands reply held t f → ⊥

  abbrev Parts : Bool → ForestOf I → Fault I → Type 0
  Parts held end f = ⊥
  Parts held (tree l c o) f =
      ((is_entered l ≡ true) × IsAmong f (list_faults reply false (list_at held l c)))
      ⊎ (((is_entered l ≡ true) × (list_faults reply false (list_at held l c) ≡ []) × Stands reply (holds_body held l) (judged stay held l c) f) ⊎ Stands reply held o f)

  parts : (held : Bool) (t : ForestOf I) (f : Fault I) → Stands reply held t f → Parts held t f
  parts held t f (here e h) = inl (e, h)
  parts held t f (inside e n s) = inr (inl (e, n, s))
  parts held t f (beside s) = inr (inr s)

  pub clear_end : (held : Bool) → Clear held end
  clear_end held f s = parts held end f s

  none_if_clear : (fs : List (Fault I)) → ((f : Fault I) → IsAmong f fs → ⊥) → fs ≡ []
  none_if_clear [] h = refl
  none_if_clear (f ∷ fs) h = absurd (h f (inl refl))

  pub none_among : (f : Fault I) (fs : List (Fault I)) → fs ≡ [] → IsAmong f fs → ⊥
  none_among f fs e h = subst (IsAmong f) e h

  -- A first tree and others.
  pub clear_join : (held : Bool) (l : LabelOf I) (c o : ForestOf I) → Clear held (tree l c end) → Clear held o → Clear held (tree l c o)
  clear_join held l c o first others f s = elim (parts held (tree l c o) f s) [
    | inl h ↦ first f (here h.0 h.1)
    | inr (inl h) ↦ first f (inside h.0 h.1 h.2)
    | inr (inr s) ↦ others f s
  ]

  pub clear_others : (held : Bool) (l : LabelOf I) (c o : ForestOf I) → Clear held (tree l c o) → Clear held o
  clear_others held l c o clear f s = clear f (beside s)

  pub clear_first : (held : Bool) (l : LabelOf I) (c o : ForestOf I) → Clear held (tree l c o) → Clear held (tree l c end)
  clear_first held l c o clear f s = elim (parts held (tree l c end) f s) [
    | inl h ↦ clear f (here h.0 h.1)
    | inr (inl h) ↦ clear f (inside h.0 h.1 h.2)
    | inr (inr s) ↦ clear_end held f s
  ]

  contrary : (b : Bool) → b ≡ true → b ≡ false → ⊥
  contrary b e d = cc

  -- A node that is not entered, and one that is.
  pub clear_leaf : (held : Bool) (l : LabelOf I) (c : ForestOf I) → is_entered l ≡ false → Clear held (tree l c end)
  clear_leaf held l c e f s = elim (parts held (tree l c end) f s) [
    | inl h ↦ contrary (is_entered l) h.0 e
    | inr (inl h) ↦ contrary (is_entered l) h.0 e
    | inr (inr s) ↦ clear_end held f s
  ]

  pub clear_node : (held : Bool) (l : LabelOf I) (c : ForestOf I) → list_faults reply false (list_at held l c) ≡ [] → Clear (holds_body held l) (judged stay held l c) → Clear held (tree l c end)
  clear_node held l c none clear f s = elim (parts held (tree l c end) f s) [
    | inl h ↦ none_among f (list_faults reply false (list_at held l c)) none h.1
    | inr (inl h) ↦ clear f h.2
    | inr (inr s) ↦ clear_end held f s
  ]

  pub list_clear : (held : Bool) (l : LabelOf I) (c : ForestOf I) → is_entered l ≡ true → Clear held (tree l c end) → list_faults reply false (list_at held l c) ≡ []
  list_clear held l c e clear = none_if_clear (list_faults reply false (list_at held l c)) (λ f among. clear f (here e among))

  pub inside_clear : (held : Bool) (l : LabelOf I) (c : ForestOf I) → is_entered l ≡ true → Clear held (tree l c end) → Clear (holds_body held l) (judged stay held l c)
  inside_clear held l c e clear f s = clear f (inside e (list_clear held l c e clear) s)

  -- What a loop or a continuing block holds.
  abbrev pub rebuilt : LabelOf I → ForestOf I → ForestOf I → ForestOf I → ForestOf I → ForestOf I → ForestOf I
  rebuilt d own items rest last others = tree (kind compound) (tree d own (tree (kind statements) items rest)) (option_of last others)

  pub record AllClear (a : LabelOf I) (x : ForestOf I) (d : LabelOf I) (own items rest last others : ForestOf I) : Type 0 where
    pub at_first : Clear true (tree a x end)
    pub at_own : Clear true (tree d own end)
    pub at_items : Clear false items
    pub at_rest : Clear true rest
    pub at_last : Clear false last
    pub at_others : Clear true others

  clear_items : (items : ForestOf I) → Clear false items → Clear true (tree (kind statements) items end)
  clear_items items clear = clear_node true (kind statements) items refl clear

  clear_option : (last others : ForestOf I) → Clear false last → Clear true others → Clear true (option_of last others)
  clear_option end others clear more = clear_join true (kind absent) end others (clear_node true (kind absent) end refl clear) more
  clear_option (tree l c o) others clear more = clear_join true (kind present) (tree l c o) others (clear_node true (kind present) (tree l c o) refl clear) more

  pub clear_rebuilt : (a : LabelOf I) (x : ForestOf I) (d : LabelOf I) (own items rest last others : ForestOf I) → AllClear a x d own items rest last others → Clear true (tree a x (rebuilt d own items rest last others))
  clear_rebuilt a x d own items rest last others h =
      clear_join true a x (rebuilt d own items rest last others) h.at_first
      (clear_join true (kind compound) (tree d own (tree (kind statements) items rest)) (option_of last others)
      (clear_node true (kind compound) (tree d own (tree (kind statements) items rest)) refl
      (clear_join true d own (tree (kind statements) items rest) h.at_own (clear_join true (kind statements) items rest (clear_items items h.at_items) h.at_rest)))
      (clear_option last others h.at_last h.at_others))

  of_option : (last others : ForestOf I) → Clear true (option_of last others) → Clear false last × Clear true others
  of_option end others clear = (clear_end false, clear_others true (kind absent) end others clear)
  of_option (tree l c o) others clear = (inside_clear true (kind present) (tree l c o) refl (clear_first true (kind present) (tree l c o) others clear), clear_others true (kind present) (tree l c o) others clear)

  pub rebuilt_clear : (a : LabelOf I) (x : ForestOf I) (d : LabelOf I) (own items rest last others : ForestOf I) → Clear true (tree a x (rebuilt d own items rest last others)) → AllClear a x d own items rest last others
  rebuilt_clear a x d own items rest last others clear =
      let body = tree d own (tree (kind statements) items rest) in
      let after = clear_others true a x (rebuilt d own items rest last others) clear in
      let within = inside_clear true (kind compound) body refl (clear_first true (kind compound) body (option_of last others) after) in
      let listed = clear_others true d own (tree (kind statements) items rest) within in
      let ends = of_option last others (clear_others true (kind compound) body (option_of last others) after) in
      record {
        at_first = clear_first true a x (rebuilt d own items rest last others) clear;
        at_own = clear_first true d own (tree (kind statements) items rest) within;
        at_items = inside_clear true (kind statements) items refl (clear_first true (kind statements) items rest listed);
        at_rest = clear_others true (kind statements) items rest listed;
        at_last = ends.0;
        at_others = ends.1;
      }

  -- Nodes of a list that go to one place.
  abbrev pub ClearAt : Bool → Element I → Type 0
  ClearAt b x = goes_back b x.closes ≡ true → Clear false (tree x.label x.children end)

  each_of_back_at : (b g : Bool) (x : Element I) (xs : List (Element I)) → goes_back b x.closes ≡ g → Clear false (cond g (tree x.label x.children (back b xs)) (back b xs)) → (Clear false (back b xs) → Each (ClearAt b) xs) → Each (ClearAt b) (x ∷ xs)
  each_of_back_at b true x xs e clear ih = (λ goes. clear_first false x.label x.children (back b xs) clear, ih (clear_others false x.label x.children (back b xs) clear))
  each_of_back_at b false x xs e clear ih = (λ goes. absurd (contrary (goes_back b x.closes) goes e), ih clear)

  pub each_of_back : (b : Bool) (xs : List (Element I)) → Clear false (back b xs) → Each (ClearAt b) xs
  each_of_back b [] clear = tt
  each_of_back b (x ∷ xs) clear = each_of_back_at b _ x xs refl clear (each_of_back b xs)

  back_of_each_at : (b g : Bool) (x : Element I) (xs : List (Element I)) → goes_back b x.closes ≡ g → ClearAt b x → Clear false (back b xs) → Clear false (cond g (tree x.label x.children (back b xs)) (back b xs))
  back_of_each_at b true x xs e first clear = clear_join false x.label x.children (back b xs) (first e) clear
  back_of_each_at b false x xs e first clear = clear

  pub back_of_each : (b : Bool) (xs : List (Element I)) → Each (ClearAt b) xs → Clear false (back b xs)
  back_of_each b [] h = clear_end false
  back_of_each b (x ∷ xs) h = back_of_each_at b _ x xs refl h.0 (back_of_each b xs h.1)

  -- Attributes play no part.
  module _ (change : ForestOf I → ForestOf I) where
    abbrev changed : LabelOf I → ForestOf I → ForestOf I
    changed l c = cond (is_attributes l) (change c) (cond (is_list l) c (with_attributes change c))

    closed_list_same : (c : ForestOf I) → closed_list (with_attributes change c) ≡ closed_list c
    closed_list_same end = refl
    closed_list_same (tree a x end) = refl
    closed_list_same (tree a x (tree b body end)) = refl
    closed_list_same (tree a x (tree b body (tree o last others))) = refl

    list_at_same : (held : Bool) (l : LabelOf I) (c : ForestOf I) → is_list l ≡ false → list_at held l (with_attributes change c) ≡ list_at held l c
    list_at_same held l c e = rw e (ap (λ xs. cond (is_closed l) xs []) (closed_list_same c))

    judged_at : (v : Bool) (c : ForestOf I) → cond v (closed stay (with_attributes change c)) (with_attributes change c) ≡ with_attributes change (cond v (closed stay c) c)
    judged_at true c = sym (closed_with stay change c)
    judged_at false c = refl

    judged_same : (held : Bool) (l : LabelOf I) (c : ForestOf I) → is_list l ≡ false → judged stay held l (with_attributes change c) ≡ with_attributes change (judged stay held l c)
    judged_same held l c e = rw e (judged_at (is_closed l) c)

    abbrev label_of : LabelOf I → ForestOf I → LabelOf I
    label_of l end = l
    label_of l (tree k c o) = k

    abbrev children_of : ForestOf I → ForestOf I
    children_of end = end
    children_of (tree k c o) = c

    abbrev others_of : ForestOf I → ForestOf I
    others_of end = end
    others_of (tree k c o) = o

    -- a fault of a tree with other attributes is one of the tree
    abbrev Kept : Bool → ForestOf I → Fault I → Type 0
    Kept held u f = (t : ForestOf I) → u ≡ with_attributes change t → Stands reply held t f

    here_at : (held : Bool) (l : LabelOf I) (c o : ForestOf I) (f : Fault I) (a d : Bool) → is_attributes l ≡ a → is_list l ≡ d → is_entered l ≡ true → IsAmong f (list_faults reply false (list_at held l (cond a (change c) (cond d c (with_attributes change c))))) → Stands reply held (tree l c o) f
    here_at held l c o f true d e k en h = absurd (contrary (is_entered l) en (not_entered l e))
    here_at held l c o f false true e k en h = here en h
    here_at held l c o f false false e k en h = here en (subst (λ xs. IsAmong f (list_faults reply false xs)) (list_at_same held l c k) h)

    inside_at : (held : Bool) (l : LabelOf I) (c o : ForestOf I) (f : Fault I) (a d : Bool) → is_attributes l ≡ a → is_list l ≡ d → is_entered l ≡ true → list_faults reply false (list_at held l (cond a (change c) (cond d c (with_attributes change c)))) ≡ []
        → Stands reply (holds_body held l) (judged stay held l (cond a (change c) (cond d c (with_attributes change c)))) f → Kept (holds_body held l) (judged stay held l (cond a (change c) (cond d c (with_attributes change c)))) f → Stands reply held (tree l c o) f
    inside_at held l c o f true d e k en none s ih = absurd (contrary (is_entered l) en (not_entered l e))
    inside_at held l c o f false true e k en none s ih = inside en none s
    inside_at held l c o f false false e k en none s ih = inside en (ap (list_faults reply false) (sym (list_at_same held l c k)) ∙ none) (ih (judged stay held l c) (judged_same held l c k))

    here_kept : (held : Bool) (l : LabelOf I) (c o : ForestOf I) (f : Fault I) → is_entered l ≡ true → IsAmong f (list_faults reply false (list_at held l c)) → (t : ForestOf I) → tree l c o ≡ with_attributes change t → Stands reply held t f
    here_kept held l c o f en h end e = cc
    here_kept held l c o f en h (tree k d p) e =
        let is : l ≡ k = ap (label_of l) e in
        let same : c ≡ changed k d = ap children_of e in
        here_at held k d p f _ _ refl refl (subst (λ m. is_entered m ≡ true) is en) (subst (λ m. IsAmong f (list_faults reply false (list_at held m (changed k d)))) is (subst (λ x. IsAmong f (list_faults reply false (list_at held l x))) same h))

    inside_kept : (held : Bool) (l : LabelOf I) (c o : ForestOf I) (f : Fault I) → is_entered l ≡ true → list_faults reply false (list_at held l c) ≡ [] → Stands reply (holds_body held l) (judged stay held l c) f → Kept (holds_body held l) (judged stay held l c) f → (t : ForestOf I) → tree l c o ≡ with_attributes change t → Stands reply held t f
    inside_kept held l c o f en none s ih end e = cc
    inside_kept held l c o f en none s ih (tree k d p) e =
        let is : l ≡ k = ap (label_of l) e in
        let same : c ≡ changed k d = ap children_of e in
        inside_at held k d p f _ _ refl refl (subst (λ m. is_entered m ≡ true) is en)
        (subst (λ m. list_faults reply false (list_at held m (changed k d)) ≡ []) is (subst (λ x. list_faults reply false (list_at held l x) ≡ []) same none))
        (subst (λ m. Stands reply (holds_body held m) (judged stay held m (changed k d)) f) is (subst (λ x. Stands reply (holds_body held l) (judged stay held l x) f) same s))
        (subst (λ m. Kept (holds_body held m) (judged stay held m (changed k d)) f) is (subst (λ x. Kept (holds_body held l) (judged stay held l x) f) same ih))

    beside_kept : (held : Bool) (l : LabelOf I) (c o : ForestOf I) (f : Fault I) → Stands reply held o f → (t : ForestOf I) → tree l c o ≡ with_attributes change t → Stands reply held t f
    beside_kept held l c o f s end e = cc
    beside_kept held l c o f s (tree k d p) e = beside (subst (λ q. Stands reply held q f) (ap others_of e) s)

    kept : (held : Bool) (u : ForestOf I) (f : Fault I) → Stands reply held u f → Kept held u f
    kept held end f s = absurd (clear_end held f s)
    kept held (tree l c o) f (here e h) = here_kept held l c o f e h
    kept held (tree l c o) f (inside e n s) = inside_kept held l c o f e n s (kept (holds_body held l) (judged stay held l c) f s)
    kept held (tree l c o) f (beside s) = beside_kept held l c o f s

    pub clear_changed : (held : Bool) (t : ForestOf I) → Clear held t → Clear held (with_attributes change t)
    clear_changed held t clear f s = clear f (kept held (with_attributes change t) f s t refl)
