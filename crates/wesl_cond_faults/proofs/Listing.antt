-- The faults in trees, by the faults in their parts.
use Rattle.std.proofs.Common.{◌≡◌, Bool, true, false, List, [], ◌++◌, ◌⊎◌, inl, inr, refl, sym, ap, ◌∙◌, subst, append-nil}
use Rattle.wesl_cond_chains.specs.Chains.{staying}
use Rattle.wesl_cond_chains.specs.Faults.{list_at}
use Rattle.wesl_cond_chains.specs.Lists.{Element, element, option_of, judged, is_entered, holds_body}
use Rattle.wesl_cond_features.specs.Features.{Replies, known}
use Rattle.wesl_cond_faults.specs.Listed.{AreFaults, nothing, own, inside, apart}
use Rattle.wesl_cond_chains.specs.Places.{Place}
use Rattle.wesl_cond_faults.specs.Places.{told_of_list}
use Rattle.wesl_tree_syntax.specs.Tree.{LabelOf, ForestOf, end, tree, kind, compound, statements, present, absent}

module _ {I : Type 0} (reply : Replies I) where
  abbrev pub stay : List (Element I) → List (Element I)
  stay = staying element (known reply)

  -- What is known of a list of faults.
  abbrev pub IsOwn : Bool → LabelOf I → ForestOf I → ForestOf I → List (Place I) → Type 0
  IsOwn held l c o ps = (is_entered l ≡ true) × (told_of_list reply false (list_at held l c) ≡ [] → ⊥) × (rest : List (Place I)) × AreFaults reply held o rest × (ps ≡ told_of_list reply false (list_at held l c) ++ rest)

  abbrev pub IsInside : Bool → LabelOf I → ForestOf I → ForestOf I → List (Place I) → Type 0
  IsInside held l c o ps =
      (is_entered l ≡ true) × (told_of_list reply false (list_at held l c) ≡ [])
      × (inner : List (Place I)) × (rest : List (Place I)) × AreFaults reply (holds_body held l) (judged stay held l c) inner × AreFaults reply held o rest × (ps ≡ inner ++ rest)

  abbrev pub Parts : Bool → ForestOf I → List (Place I) → Type 0
  Parts held end ps = ps ≡ []
  Parts held (tree l c o) ps = IsOwn held l c o ps ⊎ (IsInside held l c o ps ⊎ ((is_entered l ≡ false) × AreFaults reply held o ps))

  pub parts : (held : Bool) (t : ForestOf I) (ps : List (Place I)) → AreFaults reply held t ps → Parts held t ps
  parts held t ps nothing = refl
  parts held t ps (own {rest = rest} e ne more) = inl (e, ne, rest, more, refl)
  parts held t ps (inside {inner = inner} {rest = rest} e none within more) = inr (inl (e, none, inner, rest, within, more, refl))
  parts held t ps (apart e more) = inr (inr (e, more))

  pub no_more : (held : Bool) (ps : List (Place I)) → AreFaults reply held end ps → ps ≡ []
  no_more held ps h = parts held end ps h

  alone_then : (xs rest qs : List (Place I)) → rest ≡ [] → xs ++ qs ≡ (xs ++ rest) ++ qs
  alone_then xs rest qs e = ap (λ r. r ++ qs) (sym (append-nil xs) ∙ ap (λ r. xs ++ r) (sym e))

  -- a first tree and others
  pub joined : (held : Bool) (l : LabelOf I) (c o : ForestOf I) (ps qs : List (Place I)) → AreFaults reply held (tree l c end) ps → AreFaults reply held o qs → AreFaults reply held (tree l c o) (ps ++ qs)
  joined held l c o ps qs first others = elim (parts held (tree l c end) ps first) [
    | inl h ↦ subst (AreFaults reply held (tree l c o)) (alone_then (told_of_list reply false (list_at held l c)) h.2 qs (no_more held h.2 h.3) ∙ ap (λ r. r ++ qs) (sym h.4)) (own h.0 h.1 others)
    | inr (inl h) ↦ subst (AreFaults reply held (tree l c o)) (alone_then h.2 h.3 qs (no_more held h.3 h.5) ∙ ap (λ r. r ++ qs) (sym h.6)) (inside h.0 h.1 h.4 others)
    | inr (inr h) ↦ subst (AreFaults reply held (tree l c o)) (ap (λ r. r ++ qs) (sym (no_more held ps h.1))) (apart h.0 others)
  ]

  -- one tree
  pub own_alone : (held : Bool) (l : LabelOf I) (c : ForestOf I) → is_entered l ≡ true → (told_of_list reply false (list_at held l c) ≡ [] → ⊥) → AreFaults reply held (tree l c end) (told_of_list reply false (list_at held l c))
  own_alone held l c e ne = subst (AreFaults reply held (tree l c end)) (append-nil (told_of_list reply false (list_at held l c))) (own e ne nothing)

  pub inside_alone : (held : Bool) (l : LabelOf I) (c : ForestOf I) (ps : List (Place I)) → is_entered l ≡ true → told_of_list reply false (list_at held l c) ≡ [] → AreFaults reply (holds_body held l) (judged stay held l c) ps → AreFaults reply held (tree l c end) ps
  inside_alone held l c ps e none h = subst (AreFaults reply held (tree l c end)) (append-nil ps) (inside e none h nothing)

  pub leaf_alone : (held : Bool) (l : LabelOf I) (c : ForestOf I) → is_entered l ≡ false → AreFaults reply held (tree l c end) []
  leaf_alone held l c e = apart e nothing

  -- A list judged by the node above.
  pub held_body : (x o : ForestOf I) (a : LabelOf I) (b : ForestOf I) (ps qs : List (Place I)) → is_entered a ≡ false → AreFaults reply false x ps → AreFaults reply true o qs
      → AreFaults reply true (tree (kind compound) (tree a b (tree (kind statements) x end)) o) (ps ++ qs)
  held_body x o a b ps qs e h others = inside refl refl (apart e (inside_alone true (kind statements) x ps refl refl h)) others

  pub held_option : (x : ForestOf I) (ps : List (Place I)) → AreFaults reply false x ps → AreFaults reply true (option_of x end) ps
  held_option end ps h = inside_alone true (kind absent) end ps refl refl h
  held_option (tree l c o) ps h = inside_alone true (kind present) (tree l c o) ps refl refl h
