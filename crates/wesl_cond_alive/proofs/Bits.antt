-- The sets of the nodes of a judged list, for one choice.
use Rattle.std.proofs.Common.{◌≡◌, ℕ, suc, Bool, true, false, not, ◌&&◌, cond, List, [], ◌∷◌, map, refl, ap, ◌∙◌, subst}
use Rattle.std.specs.Prelude.{Option}
use Rattle.wesl_cond_chains.specs.Chains.{Condition, none, on, else_on, otherwise, follows_on}
use Rattle.wesl_cond_chains.specs.Formulas.{Form}
use Rattle.wesl_cond_chains.specs.Picked.{Choice, is_true}
use Rattle.wesl_cond_alive.specs.Sound.{Outline, is_whole}
use Rattle.wesl_cond_alive.specs.Sets as sets
use Rattle.wesl_cond_alive.specs.Walk.{Branch, Here, bare_in, branches_of, formula_of, no_choices, places_of}
use Rattle.wesl_cond_alive.proofs.Turns.{Verdict, goes, stays, picked, verdict, verdicts}

-- `has n` is whether set n has the choice; the empty one has none
module _ {I : Type 0} (choice : Choice I) (has : ℕ → Bool) (has_none : has no_choices ≡ false) where
  abbrev value : Option (Form I) → Bool
  value = sets.value choice

  -- the branches have these sets, from number `next` on; `free` where no branch before in the first one's chain was true
  abbrev pub AreSet : ℕ → Bool → List (Branch I) → Type 0
  AreSet = sets.AreSet choice has

  -- what becomes of a node by where it stands
  abbrev pub told : Here → Verdict
  told h = cond (has h.set) (cond h.is_bare picked stays) goes

  value_is : (c : Condition I) → value (formula_of c) ≡ is_true choice c
  value_is none = refl
  value_is (on x) = refl
  value_is (else_on x) = refl
  value_is otherwise = refl

  turned : (f free : Bool) → cond (not f) true free ≡ cond f free true
  turned true free = refl
  turned false free = refl

  branch_told : (next : ℕ) (b : Bool) → has next ≡ b → told (bare_in next) ≡ verdict b
  branch_told next true e = rw e refl
  branch_told next false e = rw e refl

  module _ (holder : ℕ) (alive : has holder ≡ true) where
    abbrev Told : List (Outline I) → Bool → Bool → ℕ → Type 0
    Told xs whole free next = AreSet next free (branches_of holder whole xs) → map told (places_of holder next whole xs) ≡ verdicts choice whole free xs

    node_told : (x : Outline I) (xs : List (Outline I)) (whole free : Bool) (next : ℕ) (v w : Bool) → x.is_void ≡ v → is_whole whole x xs ≡ w
        → ((w' f : Bool) (n : ℕ) → Told xs w' f n) → Told (x ∷ xs) whole free next
    node_told x xs whole free next true w e d ih set = rw (e, has_none) (ap (λ vs. goes ∷ vs) (ih whole free next (rw e at set)))
    node_told x xs whole free next false true e d ih set = rw (e, d, alive) (ap (λ vs. stays ∷ vs) (ih true free next (rw (e, d) at set)))
    node_told x xs whole free next false false e d ih set =
        let both = rw (e, d) at set in
        let c = x.condition in
        let t = is_true choice c in
        let left = cond (follows_on c) free true in
        let first : has next ≡ (left && t) =
        both.0 ∙ ap (λ b. b && (cond (not (follows_on c)) true free && value (formula_of c))) alive
        ∙ ap (λ l. l && value (formula_of c)) (turned (follows_on c) free) ∙ ap (λ b. left && b) (value_is c) in
        let rest : AreSet (suc next) (left && not t) (branches_of holder false xs) =
        subst (λ f. AreSet (suc next) f (branches_of holder false xs)) (ap (λ l. l && not (value (formula_of c))) (turned (follows_on c) free) ∙ ap (λ b. left && not b) (value_is c)) both.1 in
        rw (e, d) (ap (λ v. v ∷ map told (places_of holder (suc next) false xs)) (branch_told next (left && t) first) ∙ ap (λ vs. verdict (left && t) ∷ vs) (ih false (left && not t) (suc next) rest))

    -- where the nodes of a list stand tells what becomes of them
    pub places_told : (xs : List (Outline I)) (whole free : Bool) (next : ℕ) → Told xs whole free next
    places_told [] whole free next set = refl
    places_told (x ∷ xs) whole free next set = node_told x xs whole free next x.is_void (is_whole whole x xs) refl refl (λ w f n. places_told xs w f n) set

  -- what a node of a list that is not kept holds is not kept
  abbrev pub AreDead : List Here → Type 0
  AreDead [] = Unit {0}
  AreDead (h ∷ hs) = (has h.set ≡ false) × AreDead hs

  module _ (holder : ℕ) (dead : has holder ≡ false) where
    abbrev Dead : List (Outline I) → Bool → Bool → ℕ → Type 0
    Dead xs whole free next = AreSet next free (branches_of holder whole xs) → AreDead (places_of holder next whole xs)

    node_dead : (x : Outline I) (xs : List (Outline I)) (whole free : Bool) (next : ℕ) (v w : Bool) → x.is_void ≡ v → is_whole whole x xs ≡ w
        → ((w' f : Bool) (n : ℕ) → Dead xs w' f n) → Dead (x ∷ xs) whole free next
    node_dead x xs whole free next true w e d ih set = rw e (has_none, ih whole free next (rw e at set))
    node_dead x xs whole free next false true e d ih set = rw (e, d) (dead, ih true free next (rw (e, d) at set))
    node_dead x xs whole free next false false e d ih set =
        let both = rw (e, d) at set in
        rw (e, d) (both.0 ∙ ap (λ b. b && (cond (not (follows_on x.condition)) true free && value (formula_of x.condition))) dead, ih false _ (suc next) both.1)

    pub places_dead : (xs : List (Outline I)) (whole free : Bool) (next : ℕ) → Dead xs whole free next
    places_dead [] whole free next set = tt
    places_dead (x ∷ xs) whole free next set = node_dead x xs whole free next x.is_void (is_whole whole x xs) refl refl (λ w f n. places_dead xs w f n) set
