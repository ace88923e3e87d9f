-- Lemmas on a map in order of insertion after a value is put at a key.
use Rattle.std.proofs.Common.{◌≡◌, ◌⊎◌, inl, inr, Bool, true, false, List, [], ◌∷◌, Contains, subst, sym, refl, ap, ◌∙◌, true≢false, if◌then◌else◌}
use Rattle.std.specs.List.{IsDistinct, AllByRecursion}
use Rattle.std.specs.Map.{keys_of}
use Rattle.indexmap.specs.IndexMap.{insert_entry}
use Rattle.wesl_link_symbols.specs.Keyed.{Puts}
use Rattle.wesl_link_symbols.proofs.Lists.{contains_nil, contains_first, contains_later, contains_cases}

module _ {K V : Type 0} (eq : K → K → Bool) (same : (x y : K) → eq x y ≡ true → x ≡ y) where
  module _ (k : K) (v : V) where
    put_has : (es : List (K × V)) → Contains (insert_entry eq es k v) (k, v)
    put_has [] = contains_first (k, v) []
    put_has (x ∷ es) = by (eq k x.0) refl (put_has es)
      where
        by : (b : Bool) → eq k x.0 ≡ b → Contains (insert_entry eq es k v) (k, v) → Contains (insert_entry eq (x ∷ es) k v) (k, v)
        by true f rest =
            subst (λ (c : Bool). Contains (if c then (x.0, v) ∷ es else x ∷ insert_entry eq es k v) (k, v)) (sym f)
            (subst (λ (z : K). Contains ((x.0, v) ∷ es) (z, v)) (sym (same k x.0 f)) (contains_first (x.0, v) es))
        by false f rest =
            subst (λ (c : Bool). Contains (if c then (x.0, v) ∷ es else x ∷ insert_entry eq es k v) (k, v)) (sym f) (contains_later x (k, v) (insert_entry eq es k v) rest)

    put_keeps : (es : List (K × V)) (q : K) (w : V) → Contains es (q, w) → (q ≡ k) ⊎ Contains (insert_entry eq es k v) (q, w)
    put_keeps [] q w h = absurd (contains_nil (q, w) h)
    put_keeps (x ∷ es) q w h = by (eq k x.0) refl (put_keeps es q w) (contains_cases x (q, w) es h)
      where
        by : (b : Bool) → eq k x.0 ≡ b → (Contains es (q, w) → (q ≡ k) ⊎ Contains (insert_entry eq es k v) (q, w)) → (x ≡ (q, w)) ⊎ Contains es (q, w)
            → (q ≡ k) ⊎ Contains (insert_entry eq (x ∷ es) k v) (q, w)
        by true f rest (inl h) = inl (ap (λ (y : K × V). y.0) (sym h) ∙ sym (same k x.0 f))
        by true f rest (inr h) =
            inr (subst (λ (c : Bool). Contains (if c then (x.0, v) ∷ es else x ∷ insert_entry eq es k v) (q, w)) (sym f) (contains_later (x.0, v) (q, w) es h))
        by false f rest (inl h) =
            inr (subst (λ (c : Bool). Contains (if c then (x.0, v) ∷ es else x ∷ insert_entry eq es k v) (q, w)) (sym f)
            (subst (λ (y : K × V). Contains (x ∷ insert_entry eq es k v) y) h (contains_first x (insert_entry eq es k v))))
        by false f rest (inr h) = elim (rest h) [
          | inl e ↦ inl e
          | inr t ↦ inr (subst (λ (c : Bool). Contains (if c then (x.0, v) ∷ es else x ∷ insert_entry eq es k v) (q, w)) (sym f) (contains_later x (q, w) (insert_entry eq es k v) t))
        ]

    apart_all : (own : (x : K) → eq x x ≡ true) (y : K) (es : List (K × V)) (q : K) (w : V) → AllByRecursion (λ z. eq y z ≡ false) (keys_of es) → Contains es (q, w) → q ≡ y → ⊥
    apart_all own y [] q w all h e = contains_nil (q, w) h
    apart_all own y (x ∷ es) q w all h e = by (contains_cases x (q, w) es h) (apart_all own y es q w)
      where
        by : (x ≡ (q, w)) ⊎ Contains es (q, w) → (AllByRecursion (λ z. eq y z ≡ false) (keys_of es) → Contains es (q, w) → q ≡ y → ⊥) → ⊥
        by (inl h) rest = true≢false (sym (own y) ∙ (ap (λ (z : K). eq y z) (sym (ap (λ (p : K × V). p.0) h ∙ e)) ∙ all.0))
        by (inr h) rest = rest all.1 h e

    -- a key of a list of different keys has one value
    one_value : (own : (x : K) → eq x x ≡ true) (es : List (K × V)) → IsDistinct eq (keys_of es) → (q : K) (u w : V) → Contains es (q, u) → Contains es (q, w) → u ≡ w
    unfolding IsDistinct
    one_value own [] d q u w h i = absurd (contains_nil (q, u) h)
    one_value own (x ∷ es) d q u w h i = by (contains_cases x (q, u) es h) (contains_cases x (q, w) es i) (one_value own es d.1 q u w)
      where
        by : (x ≡ (q, u)) ⊎ Contains es (q, u) → (x ≡ (q, w)) ⊎ Contains es (q, w) → (Contains es (q, u) → Contains es (q, w) → u ≡ w) → u ≡ w
        by (inl a) (inl b) rest = ap (λ (y : K × V). y.1) (sym a ∙ b)
        by (inl a) (inr b) rest = absurd (apart_all own x.0 es q w d.0 b (sym (ap (λ (y : K × V). y.0) a)))
        by (inr a) (inl b) rest = absurd (apart_all own x.0 es q u d.0 a (sym (ap (λ (y : K × V). y.0) b)))
        by (inr a) (inr b) rest = rest a b

    put_from : (es : List (K × V)) (q : K) (w : V) → (q ≡ k → ⊥) → Contains (insert_entry eq es k v) (q, w) → Contains es (q, w)
    put_from [] q w differ h = elim (contains_cases (k, v) (q, w) [] h) [
      | inl e ↦ absurd (differ (ap (λ (y : K × V). y.0) (sym e)))
      | inr t ↦ absurd (contains_nil (q, w) t)
    ]
    put_from (x ∷ es) q w differ h = by (eq k x.0) refl (put_from es q w differ)
      where
        by : (b : Bool) → eq k x.0 ≡ b → (Contains (insert_entry eq es k v) (q, w) → Contains es (q, w)) → Contains (x ∷ es) (q, w)
        by true f rest =
            elim (contains_cases (x.0, v) (q, w) es (subst (λ (c : Bool). Contains (if c then (x.0, v) ∷ es else x ∷ insert_entry eq es k v) (q, w)) f h)) [
              | inl e ↦ absurd (differ (ap (λ (y : K × V). y.0) (sym e) ∙ sym (same k x.0 f)))
              | inr t ↦ contains_later x (q, w) es t
            ]
        by false f rest =
            elim (contains_cases x (q, w) (insert_entry eq es k v) (subst (λ (c : Bool). Contains (if c then (x.0, v) ∷ es else x ∷ insert_entry eq es k v) (q, w)) f h)) [
              | inl e ↦ subst (λ (y : K × V). Contains (x ∷ es) y) e (contains_first x es)
              | inr t ↦ contains_later x (q, w) es (rest t)
            ]

    put_only : (own : (x : K) → eq x x ≡ true) (es : List (K × V)) → IsDistinct eq (keys_of (insert_entry eq es k v)) → (q : K) (w : V) → Contains (insert_entry eq es k v) (q, w)
        → ((q ≡ k) × (w ≡ v)) ⊎ ((q ≡ k → ⊥) × Contains es (q, w))
    put_only own es d q w h = by (eq k q) refl
      where
        by : (b : Bool) → eq k q ≡ b → ((q ≡ k) × (w ≡ v)) ⊎ ((q ≡ k → ⊥) × Contains es (q, w))
        by true f =
            let i : q ≡ k = sym (same k q f) in
            inl (i, one_value own (insert_entry eq es k v) d k w v (subst (λ (z : K). Contains (insert_entry eq es k v) (z, w)) i h) (put_has es))
        by false f =
            let differ : q ≡ k → ⊥ = λ e. true≢false (sym (own k) ∙ (ap (λ (z : K). eq k z) (sym e) ∙ f)) in
            inr (differ, put_from es q w differ h)

    pub puts : (own : (x : K) → eq x x ≡ true) (old new : List (K × V)) → new ≡ insert_entry eq old k v → IsDistinct eq (keys_of new) → Puts old k v new
    puts own old new e d = subst (λ (es : List (K × V)). Puts old k v es) (sym e) record {
      has = put_has old;
      keeps = put_keeps old;
      only = put_only own old (subst (λ (es : List (K × V)). IsDistinct eq (keys_of es)) e d);
    }
