-- Questions that are numbered as they are asked first.
use Rattle.std.proofs.Common.{◌≡◌, inl, inr, ℕ, ◌≤◌, List, [], ◌∷◌, ◌++◌, length, slice_get, Some, Contains, arith, subst, sym, refl, ◌∙◌}
use Rattle.std.proofs.lemmas.List.Elements.{Contains-push_cases, Contains-push, Contains-append_left}
use Rattle.std.proofs.lemmas.Option.{slice_get_within}
use Rattle.wesl_link_symbols.specs.Keyed.{Puts}
use Rattle.wesl_link_symbols.proofs.Lists.{contains_nil, at_push, at_contains}
use Rattle.wesl_link_trails.specs.Ends.{AreNumbered}

module _ {Q : Type 0} where
  pub none_numbered : (asked : List Q) (firsts : List (Q × ℕ)) → asked ≡ [] → firsts ≡ [] → AreNumbered asked firsts
  none_numbered asked firsts e f = record {
    there = λ q n h. absurd (contains_nil (q, n) (subst (λ (xs : List (Q × ℕ)). Contains xs (q, n)) f h));
    first = λ q n h. absurd (contains_nil (q, n) (subst (λ (xs : List (Q × ℕ)). Contains xs (q, n)) f h));
    noted = λ q h. absurd (contains_nil q (subst (λ (xs : List Q). Contains xs q) e h));
  }

  pub one_numbered : (asked more : List Q) (firsts firsts2 : List (Q × ℕ)) (q : Q) (n : ℕ) → n ≡ length asked → ((m : ℕ) → Contains firsts (q, m) → ⊥) → AreNumbered asked firsts
      → Puts firsts q n firsts2 → more ≡ asked ++ q ∷ [] → AreNumbered more firsts2
  one_numbered asked more firsts firsts2 q n e none a put f = subst (λ (xs : List Q). AreNumbered xs firsts2) (sym f) record {
    there = λ r m h. elim (put.only r m h) [
      | inl both ↦ subst (λ (x : Q). Contains (asked ++ q ∷ []) x) (sym both.0) (Contains-push asked q)
      | inr both ↦ Contains-append_left asked (q ∷ []) r (a.there r m both.1)
    ];
    first = λ r m h k at. elim (put.only r m h) [
      | inl both ↦ here r m k both.0 both.1 at
      | inr both ↦ before r m k both.0 both.1 at
    ];
    noted = λ r h. elim (Contains-push_cases asked q r h) [
      | inl old ↦ (let (m, there) = a.noted r old in elim (put.keeps r m there) [
        | inl same ↦ absurd (none m (subst (λ (x : Q). Contains firsts (x, m)) same there))
        | inr kept ↦ (m, kept)
      ])
      | inr same ↦ subst (λ (x : Q). (m : ℕ) × Contains firsts2 (x, m)) same (n, put.has)
    ];
  }
    where
      -- the new one stands last alone
      here : (r : Q) (m k : ℕ) → r ≡ q → m ≡ n → slice_get (asked ++ q ∷ []) k ≡ Some r → m ≤ k
      here r m k is same at = elim (at_push asked q k r at) [
        | inl old ↦ (let (j, there) = a.noted r (at_contains asked k r old) in absurd (none j (subst (λ (x : Q). Contains firsts (x, j)) is there)))
        | inr last ↦ (let last_place = last.0 in omega (arith, same, e, last_place))
      ]

      before : (r : Q) (m k : ℕ) → (r ≡ q → ⊥) → Contains firsts (r, m) → slice_get (asked ++ q ∷ []) k ≡ Some r → m ≤ k
      before r m k other there at = elim (at_push asked q k r at) [
        | inl old ↦ a.first r m there k old
        | inr last ↦ absurd (other last.1)
      ]
