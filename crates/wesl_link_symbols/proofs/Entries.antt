-- Lemmas on the entries of a map by key, and on keys in a list that a set has.
use Rattle.std.proofs.Common.{◌≡◌, ◌↔◌, IsTrue, ◌⊎◌, inl, inr, ℕ, ◌-◌, ◌+◌, length, take, arith, Bool, true, false, cond, List, [], ◌∷◌, ◌++◌, Option, Some, None, Contains, subst, sym, refl, ap, ◌∙◌, true≢false}
use Rattle.std.specs.Cmp.{IsEquivalence}
use Rattle.std.specs.List.{IsDistinct, list_any}
use Rattle.std.specs.List.Sorted.{IsPermutation}
use Rattle.std.specs.Map.{lookup, keys_of, set_value}
use Rattle.std.specs.Option.{MatchOption}
use Rattle.std.proofs.Math.Seq.{take-append_seam}
use Rattle.std.proofs.lemmas.List.{length-append}
use Rattle.std.proofs.lemmas.List.Elements.{Contains-append_left, Contains-append_right, Contains-append_cases}
use Rattle.std.proofs.lemmas.List.Sorted.{Contains-permutation}
use Rattle.std.proofs.lemmas.Map.Views.{lookup-from_Contains, Contains-from_lookup, list_any-from_Contains, Contains-from_any}
use Rattle.wesl_link_symbols.specs.Keyed.{Puts, PutsKey, HaveTheSame}
use Rattle.wesl_link_symbols.proofs.Lists.{contains_nil, contains_first, contains_later, contains_cases}

module _ {K V : Type 0} (eq : K → K → Bool) (same : (x y : K) → eq x y ≡ true → x ≡ y) (laws : IsEquivalence eq) where
  pub found_at : (es : List (K × V)) (k : K) (v : V) → lookup (eq k) es ≡ Some v → Contains es (k, v)
  found_at es k v e = Contains-from_lookup same k v es e

  pub none_at : (es : List (K × V)) (k : K) (v : V) → lookup (eq k) es ≡ None → Contains es (k, v) → ⊥
  none_at [] k v e h = contains_nil (k, v) h
  none_at (x ∷ es) k v e h = by (eq k x.0) refl (none_at es k v) (contains_cases x (k, v) es h)
    where
      by : (b : Bool) → eq k x.0 ≡ b → (lookup (eq k) es ≡ None → Contains es (k, v) → ⊥) → (x ≡ (k, v)) ⊎ Contains es (k, v) → ⊥
      by true f rest h = let g : Some x.1 ≡ None = sym (ap (λ c. cond c (Some x.1) (lookup (eq k) es)) f) ∙ e in cc
      by false f rest (inl h) = true≢false (sym (laws.refl k) ∙ (ap (λ (y : K × V). eq k y.0) (sym h) ∙ f))
      by false f rest (inr h) = rest (sym (ap (λ c. cond c (Some x.1) (lookup (eq k) es)) f) ∙ e) h

  module _ (k : K) (v : V) where
    -- an entry at another key stays where a value takes the place of one
    set_keeps : (es : List (K × V)) (q : K) (w : V) → eq k q ≡ false → Contains es (q, w) → Contains (set_value (eq k) es v) (q, w)
    set_keeps [] q w d h = absurd (contains_nil (q, w) h)
    set_keeps (x ∷ es) q w d h = by (eq k x.0) refl (set_keeps es q w d) (contains_cases x (q, w) es h)
      where
        by : (b : Bool) → eq k x.0 ≡ b → (Contains es (q, w) → Contains (set_value (eq k) es v) (q, w)) → (x ≡ (q, w)) ⊎ Contains es (q, w) → Contains (set_value (eq k) (x ∷ es) v) (q, w)
        by true f rest (inl e) = absurd (true≢false (sym f ∙ (ap (λ (y : K × V). eq k y.0) e ∙ d)))
        by true f rest (inr t) =
            subst (λ (c : Bool). Contains (cond c ((x.0, v) ∷ es) (x ∷ set_value (eq k) es v)) (q, w)) (sym f) (contains_later (x.0, v) (q, w) es t)
        by false f rest (inl e) =
            subst (λ (c : Bool). Contains (cond c ((x.0, v) ∷ es) (x ∷ set_value (eq k) es v)) (q, w)) (sym f)
            (subst (λ (y : K × V). Contains (x ∷ set_value (eq k) es v) y) e (contains_first x (set_value (eq k) es v)))
        by false f rest (inr t) =
            subst (λ (c : Bool). Contains (cond c ((x.0, v) ∷ es) (x ∷ set_value (eq k) es v)) (q, w)) (sym f) (contains_later x (q, w) (set_value (eq k) es v) (rest t))

    kept_in : (old new : List (K × V)) (o : Option V) → MatchOption o (IsPermutation ((k, v) ∷ old) new) (λ _. new ≡ set_value (eq k) old v)
        → (q : K) (w : V) → eq k q ≡ false → Contains old (q, w) → Contains new (q, w)
    kept_in old new None p q w d h = Contains-permutation ((k, v) ∷ old) new (q, w) p (contains_later (k, v) (q, w) old h)
    kept_in old new (Some u) e q w d h = subst (λ (es : List (K × V)). Contains es (q, w)) (sym e) (set_keeps old q w d h)

    module _ (old new : List (K × V)) (looks : (q : K) → lookup (eq q) new ≡ cond (eq k q) (Some v) (lookup (eq q) old)) (distinct : IsDistinct eq (keys_of new)) where
      value_is : (q : K) (w : V) → eq k q ≡ true → Contains new (q, w) → w ≡ v
      value_is q w f h =
          let e : Some w ≡ Some v = sym (lookup-from_Contains laws q w new distinct h) ∙ (looks q ∙ ap (λ c. cond c (Some v) (lookup (eq q) old)) f) in cc

      was_there : (q : K) (w : V) → eq k q ≡ false → Contains new (q, w) → Contains old (q, w)
      was_there q w f h =
          found_at old q w (sym (looks q ∙ ap (λ c. cond c (Some v) (lookup (eq q) old)) f) ∙ lookup-from_Contains laws q w new distinct h)

      apart : (q : K) → eq k q ≡ false → q ≡ k → ⊥
      apart q f e = true≢false (sym (laws.refl k) ∙ (ap (λ (z : K). eq k z) (sym e) ∙ f))

      keeps : (o : Option V) → MatchOption o (IsPermutation ((k, v) ∷ old) new) (λ _. new ≡ set_value (eq k) old v) → (q : K) (w : V) → Contains old (q, w) → (q ≡ k) ⊎ Contains new (q, w)
      keeps o at q w h = by (eq k q) refl
        where
          by : (b : Bool) → eq k q ≡ b → (q ≡ k) ⊎ Contains new (q, w)
          by true f = inl (sym (same k q f))
          by false f = inr (kept_in old new o at q w f h)

      only : (q : K) (w : V) → Contains new (q, w) → ((q ≡ k) × (w ≡ v)) ⊎ ((q ≡ k → ⊥) × Contains old (q, w))
      only q w h = by (eq k q) refl
        where
          by : (b : Bool) → eq k q ≡ b → ((q ≡ k) × (w ≡ v)) ⊎ ((q ≡ k → ⊥) × Contains old (q, w))
          by true f = inl (sym (same k q f), value_is q w f h)
          by false f = inr (apart q f, was_there q w f h)

      pub puts : (o : Option V) → MatchOption o (IsPermutation ((k, v) ∷ old) new) (λ _. new ≡ set_value (eq k) old v) → Puts old k v new
      puts o at = record {
        has = found_at new k v (looks k ∙ ap (λ c. cond c (Some v) (lookup (eq k) old)) (laws.refl k));
        keeps = keeps o at;
        only = only;
      }

module _ {K : Type 0} (eq : K → K → Bool) (same : (x y : K) → eq x y ≡ true → x ≡ y) (laws : IsEquivalence eq) where
  pub has_key_is : (k : K) (ks : List K) (b : Bool) → b ≡ list_any (eq k) ks → IsTrue b ↔ Contains ks k
  has_key_is k ks b e = (λ h. Contains-from_any same k ks (sym e ∙ h), λ h. e ∙ list_any-from_Contains laws k ks h)

  -- a key that the set has stands in the list, and one that it lacks does not
  pub key_there : (xs ks : List K) (k : K) → HaveTheSame xs ks → list_any (eq k) ks ≡ true → PutsKey xs k xs
  key_there xs ks k s e = inl ((s k).1 (Contains-from_any same k ks e), refl)

  pub key_absent : (xs ks ys : List K) (k : K) → HaveTheSame xs ks → list_any (eq k) ks ≡ false → ys ≡ xs ++ k ∷ [] → PutsKey xs k ys
  key_absent xs ks ys k s e y = inr (λ h. true≢false (sym (list_any-from_Contains laws k ks ((s k).0 h)) ∙ e), y)

  -- one more key in both
  pub same_more : (xs ks ys ns : List K) (k : K) → HaveTheSame xs ks → ys ≡ xs ++ k ∷ [] → ((q : K) → list_any (eq q) ns ≡ cond (eq k q) true (list_any (eq q) ks)) → HaveTheSame ys ns
  same_more xs ks ys ns k s y looks q = subst (λ (zs : List K). Contains zs q ↔ Contains ns q) (sym y) (there, back)
    where
      held : (b c : Bool) → (c ≡ true) → cond b true c ≡ true
      held true c e = refl
      held false c e = e

      there : Contains (xs ++ k ∷ []) q → Contains ns q
      there h = Contains-from_any same q ns (looks q ∙ elim (Contains-append_cases xs (k ∷ []) q h) [
        | inl t ↦ held (eq k q) (list_any (eq q) ks) (list_any-from_Contains laws q ks ((s q).0 t))
        | inr t ↦ elim (contains_cases k q [] t) [
          | inl e ↦ ap (λ c. cond c true (list_any (eq q) ks)) (subst (λ (z : K). eq k z ≡ true) e (laws.refl k))
          | inr n ↦ absurd (contains_nil q n)
        ]
      ])

      back : Contains ns q → Contains (xs ++ k ∷ []) q
      back h = by (eq k q) refl
        where
          by : (b : Bool) → eq k q ≡ b → Contains (xs ++ k ∷ []) q
          by true f = Contains-append_right xs (k ∷ []) q (subst (λ (z : K). Contains (k ∷ []) z) (same k q f) (contains_first k []))
          by false f =
              Contains-append_left xs (k ∷ []) q
              ((s q).1 (Contains-from_any same q ks (sym (looks q ∙ ap (λ c. cond c true (list_any (eq q) ks)) f) ∙ list_any-from_Contains laws q ns h)))

-- the last of a list that one went to the end of is let go
pub popped : {K : Type 0} (xs ys zs : List K) (k : K) (n : ℕ) → n ≡ length ys → ys ≡ xs ++ k ∷ [] → zs ≡ take (n - 1) ys → zs ≡ xs
popped xs ys zs k n l e f =
    let longer : length ys ≡ length xs + 1 = ap length e ∙ length-append xs (k ∷ []) in
    let counted : n - 1 ≡ length xs = omega (arith, l, longer) in
    f ∙ (ap (λ m. take m ys) counted ∙ (ap (take (length xs)) e ∙ take-append_seam xs (k ∷ [])))
