-- Bodies, and loops with what closes their lists.
use Rattle.std.proofs.Common.{◌≡◌, ℕ, true, false, List, [], ◌∷◌, ◌++◌, ◌⊎◌, inl, inr, Option, Some, None, Result, Err, Vec, Global, refl, sym, ap, ◌∙◌, subst}
use Rattle.wesl_cond_chains.specs.Places.{StandsAt, list_places, Place}
use Rattle.wesl_cond_chains.specs.Evaluation.{Refuses}
use Rattle.wesl_cond_chains.specs.Faults.{inside, beside, list_at}
use Rattle.wesl_cond_chains.specs.Judging.{IsClear, Checks, closing, RefusesIn}
use Rattle.wesl_cond_chains.specs.Lists.{Element, elements, back, option_of, alone, judged, is_entered, is_closed, holds_body}
use Rattle.wesl_cond_chains.specs.Nodes.{optional_forest}
use Rattle.wesl_cond_unit.proofs.Standing.{stay, below, held_body, in_held_body, held_option, in_held_option, passed_by, refuses_more, checks_same, list_refused, list_checked, skip}
use Rattle.wesl_cond_unit.proofs.Walked.{open_front}
use Rattle.wesl_cond_features.specs.Features.{Replies, known}
use Rattle.wesl_tree_names.specs.Path.{Text}
use Rattle.wesl_tree_names.specs.declared.errors.Diagnostic.{Diagnostic}
use Rattle.wesl_tree_syntax.specs.Tree.{Label, Forest, Tree, end, tree, kind, before, forest_of, branch, compound, statements}
use Rattle.wesl_tree_syntax.specs.View.{attributes_tree, optional}
use Rattle.wesl_tree_syntax.specs.declared.attribute.Attribute.{Attribute}
use Rattle.wesl_tree_syntax.specs.declared.span.Spanned.{Spanned}

module _ (reply : Replies ℕ) (names : List Text) where
  -- A body: its attributes are not entered, and its statements are a judged list.
  abbrev pub body : Vec (Spanned Attribute) Global → List Tree → Tree
  body a ts = branch compound (attributes_tree a ∷ branch statements ts ∷ [])

  pub body_refused : (a : Vec (Spanned Attribute) Global) (ts : List Tree) (e : Diagnostic) → Refuses names (list_places reply false (elements false (forest_of ts))) e → RefusesIn names reply (before (body a ts) end) e
  body_refused a ts e h =
      list_checked reply names {A = ℕ} (kind compound) (forest_of (attributes_tree a ∷ branch statements ts ∷ [])) (Err e) refl refl refl
      (skip reply names {A = ℕ} (attributes_tree a) (before (branch statements ts) end) (Err e) refl (list_refused reply names (kind statements) (forest_of ts) e refl h))

  pub body_checked : {A : Type 0} (a : Vec (Spanned Attribute) Global) (ts : List Tree) (r : Result A Diagnostic) → list_places reply false (elements false (forest_of ts)) ≡ [] → Checks names reply (alone (stay reply) (forest_of ts)) r → Checks names reply (before (body a ts) end) r
  body_checked a ts r none h =
      list_checked reply names (kind compound) (forest_of (attributes_tree a ∷ branch statements ts ∷ [])) r refl refl refl
      (skip reply names (attributes_tree a) (before (branch statements ts) end) r refl (list_checked reply names (kind statements) (forest_of ts) r refl none refl h))

  -- What a loop and a continuing block hold.
  module _ {B : Type 0} (last : B → Tree) (l : Label) (closes : is_closed l ≡ true) (entered : is_entered l ≡ true) (a b : Vec (Spanned Attribute) Global) (ts : List Tree) where
    abbrev pub held : Option B → Forest
    held o = forest_of (attributes_tree a ∷ body b ts ∷ optional last o ∷ [])

    abbrev pub all : Option B → List (Element ℕ)
    all o = elements false (forest_of ts) ++ elements true (optional_forest last o)

    its_list : (o : Option B) → list_at false l (held o) ≡ all o
    its_list None = rw closes refl
    its_list (Some y) = rw closes refl

    abbrev rebuilt : List (Element ℕ) → Forest
    rebuilt kept = before (attributes_tree a) (tree (kind compound) (before (attributes_tree b) (tree (kind statements) (back false kept) end)) (option_of (back true kept) end))

    what_stays : (o : Option B) → judged (stay reply) false l (held o) ≡ rebuilt (stay reply (all o))
    what_stays None = rw closes refl
    what_stays (Some y) = rw closes refl

    holds : holds_body false l ≡ true
    holds = rw closes refl

    in_rebuilt : (kept : List (Element ℕ)) (f : Place ℕ) → StandsAt reply true (rebuilt kept) f → StandsAt reply false (back false kept) f ⊎ StandsAt reply false (back true kept) f
    in_rebuilt kept f s = elim (held_body reply (back false kept) (option_of (back true kept) end) b f (passed_by reply true (attributes_tree a).label (attributes_tree a).children (tree (kind compound) (before (attributes_tree b) (tree (kind statements) (back false kept) end)) (option_of (back true kept) end)) refl f s)) [
      | inl s ↦ inl s
      | inr s ↦ inr (held_option reply (back true kept) f s)
    ]

    parts_of : (o : Option B) → list_places reply false (all o) ≡ [] → (f : Place ℕ) → StandsAt reply false (tree l (held o) end) f → StandsAt reply false (alone (stay reply) (forest_of ts)) f ⊎ StandsAt reply false (closing (known reply) (forest_of ts) (optional_forest last o)) f
    parts_of o none f s =
        let inner = subst (λ t. StandsAt reply true t f) (what_stays o) (subst (λ h. StandsAt reply h (judged (stay reply) false l (held o)) f) holds (below reply false l (held o) (ap (list_places reply false) (its_list o) ∙ none) f s)) in
        elim (in_rebuilt (stay reply (all o)) f inner) [
          | inl s ↦ inl (subst (λ t. StandsAt reply false t f) (open_front (known reply) (forest_of ts) (optional_forest last o)) s)
          | inr s ↦ inr s
        ]

    from_inside : (o : Option B) → list_places reply false (all o) ≡ [] → (f : Place ℕ) → StandsAt reply true (rebuilt (stay reply (all o))) f → StandsAt reply false (tree l (held o) end) f
    from_inside o none f s = inside entered (ap (list_places reply false) (its_list o) ∙ none) (subst (λ h. StandsAt reply h (judged (stay reply) false l (held o)) f) (sym holds) (subst (λ t. StandsAt reply true t f) (sym (what_stays o)) s))

    of_front : (o : Option B) → list_places reply false (all o) ≡ [] → (f : Place ℕ) → StandsAt reply false (alone (stay reply) (forest_of ts)) f → StandsAt reply false (tree l (held o) end) f
    of_front o none f s = from_inside o none f (beside (in_held_body reply (back false (stay reply (all o))) (option_of (back true (stay reply (all o))) end) b f (subst (λ t. StandsAt reply false t f) (sym (open_front (known reply) (forest_of ts) (optional_forest last o))) s)))

    of_last : (o : Option B) → list_places reply false (all o) ≡ [] → (f : Place ℕ) → StandsAt reply false (closing (known reply) (forest_of ts) (optional_forest last o)) f → StandsAt reply false (tree l (held o) end) f
    of_last o none f s = from_inside o none f (beside (beside (in_held_option reply (back true (stay reply (all o))) f s)))

    pub closed_refused : (o : Option B) (e : Diagnostic) → Refuses names (list_places reply false (all o)) e → RefusesIn names reply (tree l (held o) end) e
    closed_refused o e h = list_refused reply names l (held o) e entered (subst (λ xs. Refuses names (list_places reply false xs) e) (sym (its_list o)) h)

    pub front_refused : (o : Option B) (e : Diagnostic) → list_places reply false (all o) ≡ [] → RefusesIn names reply (alone (stay reply) (forest_of ts)) e → RefusesIn names reply (tree l (held o) end) e
    front_refused o e none h = refuses_more reply names (alone (stay reply) (forest_of ts)) (tree l (held o) end) e (of_front o none) h

    pub closed_checked : {A : Type 0} (o : Option B) (r : Result A Diagnostic) → list_places reply false (all o) ≡ [] → IsClear reply (alone (stay reply) (forest_of ts)) → Checks names reply (closing (known reply) (forest_of ts) (optional_forest last o)) r → Checks names reply (tree l (held o) end) r
    closed_checked o r none clear h = checks_same reply names (closing (known reply) (forest_of ts) (optional_forest last o)) (tree l (held o) end) r
        (λ f s. elim (parts_of o none f s) [
          | inl s ↦ absurd (clear f s)
          | inr s ↦ s
        ])
        (of_last o none) h

    pub closed_front : {A : Type 0} (o : Option B) (r : Result A Diagnostic) → list_places reply false (all o) ≡ [] → IsClear reply (closing (known reply) (forest_of ts) (optional_forest last o)) → Checks names reply (alone (stay reply) (forest_of ts)) r → Checks names reply (tree l (held o) end) r
    closed_front o r none clear h = checks_same reply names (alone (stay reply) (forest_of ts)) (tree l (held o) end) r
        (λ f s. elim (parts_of o none f s) [
          | inl s ↦ s
          | inr s ↦ absurd (clear f s)
        ])
        (of_front o none) h
