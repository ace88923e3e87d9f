-- Where faults stand in a tree, by its parts.
use Rattle.std.proofs.Common.{◌≡◌, ℕ, Bool, true, false, List, [], ◌⊎◌, inl, inr, Result, Ok, Err, Vec, Global, refl, sym, subst}
use Rattle.wesl_cond_chains.specs.Places.{StandsAt, list_places, Place}
use Rattle.wesl_cond_chains.specs.Evaluation.{Refuses}
use Rattle.wesl_cond_chains.specs.Chains.{staying}
use Rattle.wesl_cond_chains.specs.Faults.{here, inside, beside, list_at}
use Rattle.wesl_cond_chains.specs.Judging.{IsClear, Checks, RefusesIn}
use Rattle.wesl_cond_chains.specs.Lists.{Element, element, option_of, judged, is_entered, holds_body}
use Rattle.wesl_cond_chains.specs.FormulaFaults.{IsAmong}
use Rattle.wesl_cond_features.specs.Features.{Replies, known}
use Rattle.wesl_tree_names.specs.Path.{Text}
use Rattle.wesl_tree_names.specs.declared.errors.Diagnostic.{Diagnostic}
use Rattle.wesl_tree_syntax.specs.Tree.{Label, Forest, Tree, end, tree, kind, before, compound, statements, present, absent}
use Rattle.wesl_tree_syntax.specs.View.{attributes_tree}
use Rattle.wesl_tree_syntax.specs.declared.attribute.Attribute.{Attribute}
use Rattle.wesl_tree_syntax.specs.declared.span.Spanned.{Spanned}

module _ (reply : Replies ℕ) where
  -- the nodes of a list that stay
  abbrev pub stay : List (Element ℕ) → List (Element ℕ)
  stay = staying element (known reply)

  abbrev Parts : Bool → Forest → Place ℕ → Type 0
  Parts held end f = ⊥
  Parts held (tree l c o) f =
      ((is_entered l ≡ true) × IsAmong f (list_places reply false (list_at held l c)))
      ⊎ (((is_entered l ≡ true) × (list_places reply false (list_at held l c) ≡ []) × StandsAt reply (holds_body held l) (judged stay held l c) f) ⊎ StandsAt reply held o f)

  pub parts : (held : Bool) (t : Forest) (f : Place ℕ) → StandsAt reply held t f → Parts held t f
  parts held t f (here e h) = inl (e, h)
  parts held t f (inside e n s) = inr (inl (e, n, s))
  parts held t f (beside s) = inr (inr s)

  -- a first tree and others
  pub split : (held : Bool) (l : Label) (c o : Forest) (f : Place ℕ) → StandsAt reply held (tree l c o) f → StandsAt reply held (tree l c end) f ⊎ StandsAt reply held o f
  split held l c o f s = elim (parts held (tree l c o) f s) [
    | inl h ↦ inl (here h.0 h.1)
    | inr (inl h) ↦ inl (inside h.0 h.1 h.2)
    | inr (inr s) ↦ inr s
  ]

  pub in_first : (held : Bool) (l : Label) (c o : Forest) (f : Place ℕ) → StandsAt reply held (tree l c end) f → StandsAt reply held (tree l c o) f
  in_first held l c o f s = elim (parts held (tree l c end) f s) [
    | inl h ↦ here h.0 h.1
    | inr (inl h) ↦ inside h.0 h.1 h.2
    | inr (inr s) ↦ absurd (parts held end f s)
  ]

  pub nothing : IsClear reply end
  nothing f s = parts false end f s

  not_entered : (b : Bool) → b ≡ true → b ≡ false → ⊥
  not_entered b e d = cc

  pub passed_by : (held : Bool) (l : Label) (c o : Forest) → is_entered l ≡ false → (f : Place ℕ) → StandsAt reply held (tree l c o) f → StandsAt reply held o f
  passed_by held l c o e f s = elim (parts held (tree l c o) f s) [
    | inl h ↦ absurd (not_entered (is_entered l) h.0 e)
    | inr (inl h) ↦ absurd (not_entered (is_entered l) h.0 e)
    | inr (inr s) ↦ s
  ]

  pub clear_leaf : (l : Label) (c : Forest) → is_entered l ≡ false → IsClear reply (tree l c end)
  clear_leaf l c e f s = nothing f (passed_by false l c end e f s)

  none_among : (f : Place ℕ) (fs : List (Place ℕ)) → fs ≡ [] → IsAmong f fs → ⊥
  none_among f fs e h = subst (IsAmong f) e h

  -- a node whose own list has no fault
  pub below : (held : Bool) (l : Label) (c : Forest) → list_places reply false (list_at held l c) ≡ [] → (f : Place ℕ) → StandsAt reply held (tree l c end) f → StandsAt reply (holds_body held l) (judged stay held l c) f
  below held l c none f s = elim (parts held (tree l c end) f s) [
    | inl h ↦ absurd (none_among f _ none h.1)
    | inr (inl h) ↦ h.2
    | inr (inr s) ↦ absurd (parts held end f s)
  ]

  module _ (names : List Text) where
    pub refuses_more : (a b : Forest) (e : Diagnostic) → ((f : Place ℕ) → StandsAt reply false a f → StandsAt reply false b f) → RefusesIn names reply a e → RefusesIn names reply b e
    refuses_more a b e more h = (h.0, more h.0 h.1, h.2)

    pub checks_same : {A : Type 0} (a b : Forest) (r : Result A Diagnostic) → ((f : Place ℕ) → StandsAt reply false b f → StandsAt reply false a f) → ((f : Place ℕ) → StandsAt reply false a f → StandsAt reply false b f) → Checks names reply a r → Checks names reply b r
    checks_same a b (Ok x) back more h = λ f s. h f (back f s)
    checks_same a b (Err e) back more h = refuses_more a b e more h

    -- a fault of the node's own list
    pub list_refused : (l : Label) (c : Forest) (e : Diagnostic) → is_entered l ≡ true → Refuses names (list_places reply false (list_at false l c)) e → RefusesIn names reply (tree l c end) e
    list_refused l c e en h = (h.0, here en h.1, h.2)

    -- what is inside
    pub list_checked : {A : Type 0} (l : Label) (c : Forest) (r : Result A Diagnostic) → is_entered l ≡ true → list_places reply false (list_at false l c) ≡ [] → holds_body false l ≡ false
        → Checks names reply (judged stay false l c) r → Checks names reply (tree l c end) r
    list_checked l c r en none h checked = checks_same (judged stay false l c) (tree l c end) r
        (λ f s. subst (λ b. StandsAt reply b (judged stay false l c) f) h (below false l c none f s))
        (λ f s. inside en none (subst (λ b. StandsAt reply b (judged stay false l c) f) (sym h) s)) checked

    -- the first of some trees, and the others
    pub first_refused : (t : Tree) (o : Forest) (e : Diagnostic) → RefusesIn names reply (before t end) e → RefusesIn names reply (before t o) e
    first_refused t o e = refuses_more (before t end) (before t o) e (in_first false t.label t.children o)

    pub next_checked : {A : Type 0} (t : Tree) (o : Forest) (r : Result A Diagnostic) → IsClear reply (before t end) → Checks names reply o r → Checks names reply (before t o) r
    next_checked t o r clear = checks_same o (before t o) r
        (λ f s. elim (split false t.label t.children o f s) [
          | inl first ↦ absurd (clear f first)
          | inr s ↦ s
        ])
        (λ f s. beside s)

    pub skip : {A : Type 0} (t : Tree) (o : Forest) (r : Result A Diagnostic) → is_entered t.label ≡ false → Checks names reply o r → Checks names reply (before t o) r
    skip t o r e = next_checked t o r (clear_leaf t.label t.children e)

  -- A list judged by the node above.
  module _ (x o : Forest) where
    held_statements : (f : Place ℕ) → StandsAt reply true (tree (kind statements) x end) f → StandsAt reply false x f
    held_statements f s = below true (kind statements) x refl f s

    pub held_body : (a : Vec (Spanned Attribute) Global) (f : Place ℕ) → StandsAt reply true (tree (kind compound) (before (attributes_tree a) (tree (kind statements) x end)) o) f → StandsAt reply false x f ⊎ StandsAt reply true o f
    held_body a f s = elim (split true (kind compound) (before (attributes_tree a) (tree (kind statements) x end)) o f s) [
      | inl first ↦ inl (held_statements f (passed_by true (attributes_tree a).label (attributes_tree a).children (tree (kind statements) x end) refl f (below true (kind compound) (before (attributes_tree a) (tree (kind statements) x end)) refl f first)))
      | inr s ↦ inr s
    ]

    pub in_held_body : (a : Vec (Spanned Attribute) Global) (f : Place ℕ) → StandsAt reply false x f → StandsAt reply true (tree (kind compound) (before (attributes_tree a) (tree (kind statements) x end)) o) f
    in_held_body a f s = inside refl refl (beside (inside refl refl s))

  pub held_option : (x : Forest) (f : Place ℕ) → StandsAt reply true (option_of x end) f → StandsAt reply false x f
  held_option end f s = below true (kind absent) end refl f s
  held_option (tree l c o) f s = below true (kind present) (tree l c o) refl f s

  pub in_held_option : (x : Forest) (f : Place ℕ) → StandsAt reply false x f → StandsAt reply true (option_of x end) f
  in_held_option end f s = inside refl refl s
  in_held_option (tree l c o) f s = inside refl refl s
