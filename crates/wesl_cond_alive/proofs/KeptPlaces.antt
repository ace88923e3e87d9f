-- What a choice keeps of the nodes of a judged list is told by where they stand.
use Rattle.std.proofs.Common.{◌≡◌, ℕ, suc, Bool, true, false, if◌then◌else◌, List, [], ◌∷◌, ◌++◌, length, map, refl, sym, ap, ◌∙◌}
use Rattle.std.proofs.lemmas.List.{length-map}
use Rattle.wesl_cond_chains.specs.Lists.{Element}
use Rattle.wesl_cond_chains.specs.Picked.{Choice}
use Rattle.wesl_cond_choices.specs.Alive.{kept_from}
use Rattle.wesl_cond_choices.specs.Choices.{Choices}
use Rattle.wesl_cond_choices.specs.declared.place.Place.{Place}
use Rattle.wesl_cond_alive.specs.Kept.{kept_indexes, numbered_element, numbered_from}
use Rattle.wesl_cond_alive.specs.Sets.{AreSet, has_choice}
use Rattle.wesl_cond_alive.specs.Sound.{Outline, outline_of, is_whole}
use Rattle.wesl_cond_alive.specs.Walk.{Here, branches_of, no_choices, places_of}
use Rattle.wesl_cond_alive.proofs.Bits.{places_told, told}
use Rattle.wesl_cond_alive.proofs.Parts.{free_ignored}
use Rattle.wesl_cond_alive.proofs.Turns.{Verdict, all_become, become, kept_is, verdicts}

module _ {I : Type 0} where
  outlines_numbered : (xs : List (Element I)) (j : ℕ) → map (λ (x : Element I × ℕ). outline_of x.0) (numbered_from j xs) ≡ map outline_of xs
  outlines_numbered [] j = refl
  outlines_numbered (x ∷ xs) j = ap (λ os. outline_of x ∷ os) (outlines_numbered xs (suc j))

  -- as many places as nodes
  count_at : (holder : ℕ) (x : Outline I) (xs : List (Outline I)) (n : ℕ) (whole v w : Bool) → x.is_void ≡ v → is_whole whole x xs ≡ w
      → ((m : ℕ) (b : Bool) → length (places_of holder m b xs) ≡ length xs) → length (places_of holder n whole (x ∷ xs)) ≡ suc (length xs)
  count_at holder x xs n whole true w e d ih = rw e (ap suc (ih n whole))
  count_at holder x xs n whole false true e d ih = rw (e, d) (ap suc (ih n true))
  count_at holder x xs n whole false false e d ih = rw (e, d) (ap suc (ih (suc n) false))

  place_count : (holder n : ℕ) (whole : Bool) (xs : List (Outline I)) → length (places_of holder n whole xs) ≡ length xs
  place_count holder n whole [] = refl
  place_count holder n whole (x ∷ xs) = count_at holder x xs n whole x.is_void (is_whole whole x xs) refl refl (λ m b. place_count holder m b xs)

  module _ (choice : Choice I) (sets : List Choices) (k : ℕ) (has_none : has_choice sets k no_choices ≡ false) (place : ℕ → Place) where
    abbrev turn : Here → Verdict
    turn h = told choice (has_choice sets k) has_none h

    abbrev becomes : Verdict → Element I × ℕ → List (Element I × ℕ)
    becomes v x = become numbered_element (λ (y : Element I × ℕ). y.0) (record { voids = λ y. refl; conditions = λ y. refl }) choice (λ y e. refl) v x

    abbrev all : List Verdict → List (Element I × ℕ) → List (Element I × ℕ)
    all vs xs = all_become numbered_element (λ (y : Element I × ℕ). y.0) (record { voids = λ y. refl; conditions = λ y. refl }) choice (λ y e. refl) vs xs

    abbrev numbers : List (Element I × ℕ) → List Place
    numbers xs = map place (map (λ x. x.1) xs)

    one_kept : (h : Here) (x : Element I) (j : ℕ) (rest : List (Element I × ℕ)) (ps : List Place) (b c : Bool) → has_choice sets k h.set ≡ b → h.is_bare ≡ c → numbers rest ≡ ps
        → numbers (becomes (turn h) (x, j) ++ rest) ≡ (if has_choice sets k h.set then place j ∷ ps else ps)
    one_kept h x j rest ps true true e d ih = rw (e, d) (ap (λ qs. place j ∷ qs) ih)
    one_kept h x j rest ps true false e d ih = rw (e, d) (ap (λ qs. place j ∷ qs) ih)
    one_kept h x j rest ps false c e d ih = rw e ih

    all_kept : (hs : List Here) (xs : List (Element I)) (j : ℕ) → length hs ≡ length xs → numbers (all (map turn hs) (numbered_from j xs)) ≡ kept_from sets k place j (map (λ h. h.set) hs)
    all_kept [] [] j e = refl
    all_kept [] (x ∷ xs) j e = cc
    all_kept (h ∷ hs) [] j e = cc
    all_kept (h ∷ hs) (x ∷ xs) j e = one_kept h x j (all (map turn hs) (numbered_from (suc j) xs)) (kept_from sets k place (suc j) (map (λ y. y.set) hs)) (has_choice sets k h.set) h.is_bare refl refl (all_kept hs xs (suc j) (cc))

    -- the nodes of a judged list that are kept are those in whose sets the choice is
    pub indexes_kept : (holder : ℕ) (xs : List (Element I)) (n : ℕ) (free : Bool) → has_choice sets k holder ≡ true → AreSet choice (has_choice sets k) n free (branches_of holder true (map outline_of xs))
        → map place (kept_indexes choice xs) ≡ kept_from sets k place 0 (map (λ h. h.set) (places_of holder n true (map outline_of xs)))
    indexes_kept holder xs n free alive set =
        let hs = places_of holder n true (map outline_of xs) in
        ap numbers (kept_is numbered_element (λ (y : Element I × ℕ). y.0) (record { voids = λ y. refl; conditions = λ y. refl }) choice (λ y e. refl) (numbered_from 0 xs))
        ∙ (ap (λ os. numbers (all (verdicts choice true true os) (numbered_from 0 xs))) (outlines_numbered xs 0)
        ∙ (ap (λ vs. numbers (all vs (numbered_from 0 xs))) (sym (places_told choice (has_choice sets k) has_none holder alive (map outline_of xs) true free n set ∙ free_ignored choice free (map outline_of xs)))
        ∙ all_kept hs xs 0 (place_count holder n true (map outline_of xs) ∙ length-map xs outline_of)))
