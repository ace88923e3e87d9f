-- What the code puts into its set gets its number.
use Rattle.std.proofs.Common.{◌≡◌, ◌≢◌, ◌⊎◌, inl, inr, ℕ, zero, suc, ◌+◌, ◌<◌, ◌≤◌, Bool, true, false, true≢false, ◌||◌, Some, List, [], ◌∷◌, ◌++◌, length, map, take, get_or, refl, sym, subst, ap, ◌∙◌, arith, length-append}
use Rattle.std.specs.Prelude.{slice_get, if◌then◌else◌}
use Rattle.std.specs.List.{list_any}
use Rattle.std.specs.Bool.{Decides}
use Rattle.std.proofs.lemmas.Bool.{cases_lt}
use Rattle.std.proofs.lemmas.List.{map-append, take_more}
use Rattle.wesl_link_assembly.proofs.Numbering.{Numbered, numbered_again, numbered_new, at_number, before_end}

first_false : (a b : Bool) → (a || b) ≡ false → a ≡ false
first_false true b h = h
first_false false b h = refl

second_false : (a b : Bool) → (a || b) ≡ false → b ≡ false
second_false true b h = absurd (true≢false h)
second_false false b h = h

module _ {C K : Type 0} (f : C → K) (nothing : K) where
  -- an element by its place
  got : (xs : List C) (i : ℕ) (x : C) → slice_get xs i ≡ Some x → (i < length (map f xs)) × (at_number nothing (map f xs) i ≡ f x)
  got [] i x h = absurd (let y : ⊥ = cc in y)
  got (y ∷ xs) zero x h = (omega arith, (let e : y ≡ x = cc in ap f e))
  got (y ∷ xs) (suc i) x h = let t = got xs i x h in (omega (arith, t.0), t.1)

  module _ (eq : C → C → Bool) (decides : (x y : C) → Decides (eq x y) (f x ≡ f y)) (k : C) where
    none_equal : (xs : List C) → list_any (eq k) xs ≡ false → (m : ℕ) → m < length (map f xs) → at_number nothing (map f xs) m ≢ f k
    none_equal [] h m l = absurd (omega (arith, l))
    none_equal (x ∷ xs) h zero l = λ e. true≢false (sym ((decides k x).1 (sym e)) ∙ first_false (eq k x) (list_any (eq k) xs) h)
    none_equal (x ∷ xs) h (suc m) l = none_equal xs (second_false (eq k x) (list_any (eq k) xs) h) m (omega (arith, l))

    -- one more
    pub put : (old new : List C) (ks : List K) (ns : List ℕ) (n : ℕ) (stored : C) → new ≡ (if list_any (eq k) old then old else old ++ k ∷ []) → slice_get new n ≡ Some stored → eq k stored ≡ true
        → Numbered nothing ks ns (map f old) → Numbered nothing (ks ++ f k ∷ []) (ns ++ n ∷ []) (map f new)
    put old new ks ns n stored is at same s = by (list_any (eq k) old) refl
      where
        same_one : f k ≡ f stored
        same_one = (decides k stored).0 same

        by : (b : Bool) → list_any (eq k) old ≡ b → Numbered nothing (ks ++ f k ∷ []) (ns ++ n ∷ []) (map f new)
        by true e =
            let new_is : new ≡ old = is ∙ ap (λ c. if c then old else old ++ k ∷ []) e in
            let g = got old n stored (subst (λ xs. slice_get xs n ≡ Some stored) new_is at) in
            subst (λ xs. Numbered nothing (ks ++ f k ∷ []) (ns ++ n ∷ []) (map f xs)) (sym new_is) (numbered_again nothing ks ns (map f old) (f k) n s g.0 (g.1 ∙ sym same_one))
        by false e =
            let new_is : new ≡ old ++ k ∷ [] = is ∙ ap (λ c. if c then old else old ++ k ∷ []) e in
            let at_new : slice_get (old ++ k ∷ []) n ≡ Some stored = subst (λ xs. slice_get xs n ≡ Some stored) new_is at in
            let g = got (old ++ k ∷ []) n stored at_new in
            let none = none_equal old e in
            let long : length (map f (old ++ k ∷ [])) ≡ length (map f old) + 1 = ap length (map-append f old (k ∷ [])) ∙ length-append (map f old) (f k ∷ []) in
            let seen_is : map f new ≡ map f old ++ f k ∷ [] = ap (map f) new_is ∙ map-append f old (k ∷ []) in
            subst (λ xs. Numbered nothing (ks ++ f k ∷ []) (ns ++ n ∷ []) xs) (sym seen_is) (numbered_new nothing ks ns (map f old) (f k) n s (last n (cases_lt n (length (map f old))) none (subst (λ xs. at_number nothing xs n ≡ f stored) (map-append f old (k ∷ [])) g.1) (omega (arith, long, g.0))) none)
          where
            last : (n : ℕ) → (n < length (map f old)) ⊎ (length (map f old) ≤ n) → ((m : ℕ) → m < length (map f old) → at_number nothing (map f old) m ≢ f k) → at_number nothing (map f old ++ f k ∷ []) n ≡ f stored → n < length (map f old) + 1 → n ≡ length (map f old)
            last n (inl l) none e b = absurd (none n l (sym (before_end nothing (map f old) (f k) nothing n l) ∙ (e ∙ sym same_one)))
            last n (inr l) none e b = omega (arith, l, b)

-- one more of the list
pub next_taken : {C K : Type 0} (f : C → K) {nothing : K} (xs : List C) (i : ℕ) (k d : C) → i < length xs → k ≡ get_or xs i d → (ns ms : List ℕ) (n : ℕ) (seen : List K) → ms ≡ ns ++ n ∷ []
    → Numbered nothing (map f (take i xs) ++ f k ∷ []) (ns ++ n ∷ []) seen → Numbered nothing (map f (take (i + 1) xs)) ms seen
next_taken {C} {K} f {nothing} xs i k d h is ns ms n seen more s =
    let taken : map f (take (i + 1) xs) ≡ map f (take i xs) ++ f k ∷ [] =
    ap (map f) (take_more xs i d h) ∙ (map-append f (take i xs) (get_or xs i d ∷ []) ∙ ap (λ x. map f (take i xs) ++ f x ∷ []) (sym is)) in
    subst (λ (ks : List K). Numbered nothing ks ms seen) (sym taken) (subst (λ (os : List ℕ). Numbered nothing (map f (take i xs) ++ f k ∷ []) os seen) (sym more) s)
