-- The notes on look-ups that were gone through.
use Rattle.std.proofs.Common.{◌≡◌, inl, inr, ℕ, ◌<◌, ◌≤◌, ◌+◌, List, [], ◌∷◌, ◌++◌, length, slice_get, slice_index_or, Some, Contains, arith, subst, sym, refl, ◌∙◌}
use Rattle.std.proofs.lemmas.List.{length-append}
use Rattle.std.proofs.lemmas.Option.{slice_get_within}
use Rattle.wesl_link_symbols.specs.declared.symbols.LookUp.{LookUp}
use Rattle.wesl_link_symbols.specs.declared.symbols.Symbol.{Symbol}
use Rattle.wesl_link_symbols.specs.Keyed.{Puts}
use Rattle.wesl_link_reach.specs.Trodden.{symbol_of, StepAt, AreNoted, KeepsNotes}
use Rattle.wesl_link_symbols.proofs.Lists.{at_push, one_at, read_at}
use Rattle.wesl_link_reach.proofs.Lists.{last_place, place_kept}

module _ {P N : Type 0} {steps : List (LookUp P N × Symbol P N)} {places : List (LookUp P N × ℕ)} {firsts : List (Symbol P N × ℕ)} where
  pub step_read : (l : LookUp P N) (k : ℕ) (x : LookUp P N × Symbol P N) → AreNoted steps places firsts → Contains places (l, k) → x ≡ slice_index_or steps k x → StepAt steps k l x.1
  step_read l k x a held is =
      let (s, at) = a.placed l k held in
      let here : slice_get steps k ≡ Some x = read_at steps steps k x refl (slice_get_within steps k (l, s) at) is in
      subst (λ (y : LookUp P N × Symbol P N). StepAt steps k l y.1) (one_at steps k (l, s) x at here) at

  pub step_within : (l : LookUp P N) (k : ℕ) → AreNoted steps places firsts → Contains places (l, k) → k < length steps
  step_within l k a held = let (s, at) = a.placed l k held in slice_get_within steps k (l, s) at

  pub first_noted : (q : Symbol P N) (n : ℕ) (firsts2 : List (Symbol P N × ℕ)) → n ≡ length steps → AreNoted steps places firsts → KeepsNotes firsts q n firsts2 → AreNoted steps places firsts2
  first_noted q n firsts2 e a keeps = record {
    placed = a.placed;
    first = λ r m held k l s at is. elim (keeps.only r m held) [
      | inl old ↦ a.first r m old k l s at is
      | inr here ↦ (let (j, noted) = a.noted k l s at in absurd (here.1.1 j (subst (λ (x : Symbol P N). Contains firsts (x, j)) (is ∙ here.0) noted)))
    ];
    within = λ r m held. elim (keeps.only r m held) [
      | inl old ↦ a.within r m old
      | inr here ↦ (let f = here.1.0 in omega arith)
    ];
    noted = λ k l s at. (let (j, noted) = a.noted k l s at in (j, keeps.stays (symbol_of l) j noted));
  }

  pub step_noted : (x : LookUp P N) (t : Symbol P N) (steps2 : List (LookUp P N × Symbol P N)) → steps2 ≡ steps ++ (x, t) ∷ [] → AreNoted steps places firsts → ((n : ℕ) × Contains firsts (symbol_of x, n)) → AreNoted steps2 places firsts
  step_noted x t steps2 e a (n, held) = subst (λ (ys : List (LookUp P N × Symbol P N)). AreNoted ys places firsts) (sym e) record {
    placed = λ l k h. (let (s, at) = a.placed l k h in (s, place_kept steps (x, t) k (l, s) at));
    first = λ r m h k l s at is. elim (at_push steps (x, t) k (l, s) at) [
      | inl old ↦ a.first r m h k l s old is
      | inr here ↦ (let low = a.within r m h in let f = here.0 in omega arith)
    ];
    within = λ r m h. (let low : m ≤ length steps = a.within r m h in let more : length (steps ++ (x, t) ∷ []) ≡ length steps + 1 = length-append steps ((x, t) ∷ []) in omega (arith, low, more));
    noted = λ k l s at. elim (at_push steps (x, t) k (l, s) at) [
      | inl old ↦ a.noted k l s old
      | inr here ↦ (n, subst (λ (y : LookUp P N × Symbol P N). Contains firsts (symbol_of y.0, n)) (sym here.1) held)
    ];
  }

  pub place_noted : (x : LookUp P N) (t : Symbol P N) (n : ℕ) (places2 : List (LookUp P N × ℕ)) → StepAt steps n x t → AreNoted steps places firsts → Puts places x n places2 → AreNoted steps places2 firsts
  place_noted x t n places2 at a put = record {
    placed = λ l k held. elim (put.only l k held) [
      | inl both ↦ (t, subst (λ (m : ℕ). StepAt steps m l t) (sym both.1) (subst (λ (y : LookUp P N). StepAt steps n y t) (sym both.0) at))
      | inr both ↦ a.placed l k both.1
    ];
    first = a.first;
    within = a.within;
    noted = a.noted;
  }

-- a note is added to a question that has none
pub notes_more : {Q : Type 0} (old new : List (Q × ℕ)) (q : Q) (n : ℕ) → ((m : ℕ) → Contains old (q, m) → ⊥) → Puts old q n new → KeepsNotes old q n new
notes_more {Q} old new q n none put = record {
  stays = λ r m held. elim (put.keeps r m held) [
    | inl same ↦ absurd (none m (subst (λ (x : Q). Contains old (x, m)) same held))
    | inr kept ↦ kept
  ];
  only = λ r m held. elim (put.only r m held) [
    | inl both ↦ inr (both.0, (both.1, none))
    | inr both ↦ inl both.1
  ];
}

pub notes_stay : {Q : Type 0} (old new : List (Q × ℕ)) (q : Q) (n : ℕ) → new ≡ old → KeepsNotes old q n new
notes_stay {Q} old new q n e = subst (λ (xs : List (Q × ℕ)). KeepsNotes old q n xs) (sym e) record { stays = λ r m h. h; only = λ r m h. inl h }

pub step_here : {P N : Type 0} (steps steps2 : List (LookUp P N × Symbol P N)) (x : LookUp P N) (t : Symbol P N) (n : ℕ) → n ≡ length steps → steps2 ≡ steps ++ (x, t) ∷ [] → StepAt steps2 n x t
step_here {P} {N} steps steps2 x t n e f = subst (λ (m : ℕ). StepAt steps2 m x t) (sym e) (subst (λ (ys : List (LookUp P N × Symbol P N)). StepAt ys (length steps) x t) (sym f) (last_place steps (x, t)))
