-- Names and their numbers: a table that has them in order, and a map that has the number of each.
use Rattle.std.proofs.Common.{◌≡◌, ◌↔◌, ◌⊎◌, inl, inr, ℕ, suc, zero, Bool, true, false, cond, List, [], ◌∷◌, ◌++◌, length, Option, Some, None, slice_get, bytes_eq, refl, sym, ap, ◌∙◌, subst, true≢false}
use Rattle.std.specs.Map.{update}
use Rattle.std.proofs.lemmas.Option.{slice_get_within}
use Rattle.std.proofs.lemmas.Slice.Eq.{bytes_eq-Decides}
use Rattle.wesl_tree_names.specs.Path.{Text}
use Rattle.wesl_json_form.specs.Units.{AreDistinct}
use Rattle.wesl_json_read.specs.Numbers.{IsNumbered}
use Rattle.wesl_json_read.specs.Numbered.{AreNumbers}

pub distinct_names : (names : List Text) (at : Text → Option ℕ) → AreNumbers names at → AreDistinct names
distinct_names names at are i j s at_i at_j =
    let e : Some i ≡ Some j = sym ((are s i).1 at_i) ∙ (are s j).1 at_j in cc

-- a name that the map has
pub held_number : (names : List Text) (at : Text → Option ℕ) (name : Text) (i : ℕ) → AreNumbers names at → at name ≡ Some i → IsNumbered names name i names
held_number names at name i are h =
    let is = (are name i).0 h in
    record { named = is; grows = inl (refl, slice_get_within names i name is) }

last_name : (names : List Text) (name : Text) → slice_get (names ++ name ∷ []) (length names) ≡ Some name
last_name [] name = refl
last_name (x ∷ names) name = last_name names name

-- a name that goes last
pub next_number : (names : List Text) (name : Text) → IsNumbered names name (length names) (names ++ name ∷ [])
next_number names name = record { named = last_name names name; grows = inr (refl, refl) }

stays_at : (names : List Text) (name s : Text) (i : ℕ) → slice_get names i ≡ Some s → slice_get (names ++ name ∷ []) i ≡ Some s
stays_at [] name s i h = cc
stays_at (x ∷ names) name s zero h = h
stays_at (x ∷ names) name s (suc i) h = stays_at names name s i h

was_at : (names : List Text) (name s : Text) (i : ℕ) → slice_get (names ++ name ∷ []) i ≡ Some s → (slice_get names i ≡ Some s) ⊎ ((i ≡ length names) × (s ≡ name))
was_at [] name s zero h = inr (refl, cc)
was_at [] name s (suc i) h = cc
was_at (x ∷ names) name s zero h = inl h
was_at (x ∷ names) name s (suc i) h = elim (was_at names name s i h) [
  | inl a ↦ inl a
  | inr b ↦ inr (ap suc b.0, b.1)
]

-- the map and the table take one more name
module _ (names : List Text) (name : Text) (at new : Text → Option ℕ) (are : AreNumbers names at) (free : at name ≡ None) (put : (s : Text) → new s ≡ update bytes_eq at name (Some (length names)) s) where
  pub more_numbers : AreNumbers (names ++ name ∷ []) new
  more_numbers s i = by (bytes_eq name s) refl
    where
      by : (b : Bool) → bytes_eq name s ≡ b → (new s ≡ Some i) ↔ (slice_get (names ++ name ∷ []) i ≡ Some s)
      by true is =
          let same : name ≡ s = (bytes_eq-Decides name s).0 is in
          let here : new s ≡ Some (length names) = put s ∙ ap (λ c. cond c (Some (length names)) (at s)) is in
          let there : new s ≡ Some i → slice_get (names ++ name ∷ []) i ≡ Some s = λ h. (let e : length names ≡ i = cc in subst (λ n. slice_get (names ++ name ∷ []) n ≡ Some s) e (last_name names name ∙ ap Some same)) in
          let back : slice_get (names ++ name ∷ []) i ≡ Some s → new s ≡ Some i = λ h. elim (was_at names name s i h) [
            | inl a ↦ (let e : None ≡ Some i = sym free ∙ (ap at same ∙ (are s i).1 a) in cc)
            | inr b ↦ here ∙ ap Some (sym b.0)
          ] in
          (there, back)
      by false is =
          let kept : new s ≡ at s = put s ∙ ap (λ c. cond c (Some (length names)) (at s)) is in
          let back : slice_get (names ++ name ∷ []) i ≡ Some s → new s ≡ Some i = λ h. elim (was_at names name s i h) [
            | inl a ↦ kept ∙ (are s i).1 a
            | inr b ↦ absurd (true≢false (sym ((bytes_eq-Decides name s).1 (sym b.1)) ∙ is))
          ] in
          (λ h. stays_at names name s i ((are s i).0 (sym kept ∙ h)), back)

-- what the map took is taken out again
module _ (names : List Text) (name : Text) (i : ℕ) (at mid new : Text → Option ℕ) (are : AreNumbers names at) (free : at name ≡ None) (put : (s : Text) → mid s ≡ update bytes_eq at name (Some i) s) (out : (s : Text) → new s ≡ update bytes_eq mid name None s) where
  back_again : (s : Text) → new s ≡ at s
  back_again s = by (bytes_eq name s) refl
    where
      by : (b : Bool) → bytes_eq name s ≡ b → new s ≡ at s
      by true is =
          let same : name ≡ s = (bytes_eq-Decides name s).0 is in
          out s ∙ (ap (λ c. cond c None (mid s)) is ∙ (sym free ∙ ap at same))
      by false is = out s ∙ (ap (λ c. cond c None (mid s)) is ∙ (put s ∙ ap (λ c. cond c (Some i) (at s)) is))

  pub same_numbers : AreNumbers names new
  same_numbers s j = subst (λ o. (o ≡ Some j) ↔ (slice_get names j ≡ Some s)) (sym (back_again s)) (are s j)
