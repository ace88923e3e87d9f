-- Two lists, compared pair by pair.
use Rattle.std.proofs.Common.{◌≡◌, ℕ, ◌+◌, ◌<◌, ◌≤◌, Bool, true, false, ◌&&◌, List, [], ◌∷◌, length, get_or, map, drop, refl, sym, ap, ◌∙◌, add-one, drop-cons, suc, String, string_bytes, bytes_eq, arith, Vec, Global}
use Rattle.std.proofs.lemmas.List.{drop_all}
use Rattle.std.specs.Vec.{vec_len}
use Rattle.wesl_tree_syntax.specs.Tree.{Tree, forest_of}
use Rattle.wesl_tree_spelling.proofs.Chains.{left_by, right_by}
use Rattle.wesl_tree_spelling.specs.Same.{same_forest, same_texts}
use Rattle.wesl_tree_spelling.specs.Tables.{same_in}
use Rattle.wesl_tree_spelling.specs.declared.tables.Tables.{Tables}
use mathlib.Core.Bool.{and-false}

-- a test of two lists, which goes on pair by pair
module _ {A : Type 0} (agree : List A → List A → Bool) where
  -- the first pairs agree, so the others decide
  pub record Compared (xs ys : Vec A Global) (i : ℕ) : Type 0 where
    pub rest : agree xs.items ys.items ≡ agree (drop i xs.items) (drop i ys.items)

module _ {A : Type 0} (view : A → Tree) (tables : Tables) where
  abbrev pub all_same : List A → List A → Bool
  all_same xs ys = same_forest tables.places (left_by tables) (right_by tables) (forest_of (map view xs)) (forest_of (map view ys))

  -- lists of different lengths differ
  lengths : (xs ys : List A) → (length xs ≡ length ys → ⊥) → all_same xs ys ≡ false
  lengths [] [] h = absurd (h refl)
  lengths [] (y ∷ ys) h = refl
  lengths (x ∷ xs) [] h = refl
  lengths (x ∷ xs) (y ∷ ys) h = rw (lengths xs ys (λ e. h (ap suc e))) (and-false _)

  next : (xs ys : List A) (i : ℕ) (x y : A) → i < length xs → i < length ys → x ≡ get_or xs i x → y ≡ get_or ys i y
      → all_same (drop i xs) (drop i ys) ≡ same_in tables (view x) (view y) && all_same (drop (i + 1) xs) (drop (i + 1) ys)
  next xs ys i x y h k is js = rw (drop-cons xs i x h, drop-cons ys i y k, ← is, ← js, add-one) refl

  -- the lists whose lengths were read as `l` and `r`
  pub other_lengths : (xs ys : Vec A Global) {l r : ℕ} → l ≡ vec_len xs → r ≡ vec_len ys → (l ≡ r → ⊥) → false ≡ all_same xs.items ys.items
  other_lengths xs ys d e h = sym (lengths xs.items ys.items (λ q. h (d ∙ omega (arith, xs.ok.0, ys.ok.0, q) ∙ sym e)))

  pub pair_agrees : {xs ys : Vec A Global} {l r n i : ℕ} {b : Bool} (x y : A) → l ≡ vec_len xs → r ≡ vec_len ys → l ≡ r → n ≡ vec_len xs → i < n → x ≡ get_or xs.items i x → y ≡ get_or ys.items i y
      → b ≡ same_in tables (view x) (view y) → b ≡ true → Compared all_same xs ys i → Compared all_same xs ys (i + 1)
  pair_agrees {xs} {ys} {i = i} x y d e h n t is js b y' w =
      let p : i < length xs.items = omega (arith, xs.ok.0, n, t) in
      let q : i < length ys.items = omega (arith, xs.ok.0, ys.ok.0, d, e, h, n, t) in
      record { rest = w.rest ∙ next xs.items ys.items i x y p q is js ∙ ap (λ r. r && all_same (drop (i + 1) xs.items) (drop (i + 1) ys.items)) (sym b ∙ y') }

  pub pair_differs : {xs ys : Vec A Global} {l r n i : ℕ} {b : Bool} (x y : A) → l ≡ vec_len xs → r ≡ vec_len ys → l ≡ r → n ≡ vec_len xs → i < n → x ≡ get_or xs.items i x → y ≡ get_or ys.items i y
      → b ≡ same_in tables (view x) (view y) → b ≡ false → Compared all_same xs ys i → false ≡ all_same xs.items ys.items
  pair_differs {xs} {ys} {i = i} x y d e h n t is js b y' w =
      let p : i < length xs.items = omega (arith, xs.ok.0, n, t) in
      let q : i < length ys.items = omega (arith, xs.ok.0, ys.ok.0, d, e, h, n, t) in
      sym (w.rest ∙ next xs.items ys.items i x y p q is js ∙ ap (λ r. r && all_same (drop (i + 1) xs.items) (drop (i + 1) ys.items)) (sym b ∙ y'))

  pub all_agree : {xs ys : Vec A Global} {l r n i : ℕ} → l ≡ vec_len xs → r ≡ vec_len ys → l ≡ r → n ≡ vec_len xs → n ≤ i → Compared all_same xs ys i → true ≡ all_same xs.items ys.items
  all_agree {xs} {ys} {i = i} d e h n t w =
      sym (w.rest ∙ rw (drop_all i xs.items (omega (arith, xs.ok.0, n, t)), drop_all i ys.items (omega (arith, xs.ok.0, ys.ok.0, d, e, h, n, t))) refl)

abbrev pub agree : List (String Global) → List (String Global) → Bool
agree xs ys = same_texts (map string_bytes xs) (map string_bytes ys)

pub agree_lengths : (xs ys : List (String Global)) → (length xs ≡ length ys → ⊥) → agree xs ys ≡ false
agree_lengths [] [] h = absurd (h refl)
agree_lengths [] (y ∷ ys) h = refl
agree_lengths (x ∷ xs) [] h = refl
agree_lengths (x ∷ xs) (y ∷ ys) h = rw (agree_lengths xs ys (λ e. h (ap suc e))) (and-false _)

pub agree_next : (xs ys : List (String Global)) (i : ℕ) (x y : String Global) → i < length xs → i < length ys → x ≡ get_or xs i x → y ≡ get_or ys i y
    → agree (drop i xs) (drop i ys) ≡ bytes_eq (string_bytes x) (string_bytes y) && agree (drop (i + 1) xs) (drop (i + 1) ys)
agree_next xs ys i x y h k is js = rw (drop-cons xs i x h, drop-cons ys i y k, ← is, ← js, add-one) refl

pub ruleset text_steps = (agree_lengths, agree_next)
