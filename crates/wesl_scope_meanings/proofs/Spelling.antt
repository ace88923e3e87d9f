-- Numbers of spellings.
use Rattle.std.proofs.Common.{◌≡◌, ◌⊎◌, inl, inr, ℕ, zero, suc, ◌+◌, ◌<◌, ◌≤◌, Bool, true, false, ◌||◌, List, [], ◌∷◌, ◌++◌, length, get_or, map, take, take_all, refl, sym, ◌∙◌, ap, subst, arith}
use Rattle.std.specs.Prelude.{bytes_eq, Some, slice_get, if◌then◌else◌}
use Rattle.std.specs.List.{All, list_any}
use Rattle.std.proofs.lemmas.Bool.{cases_lt}
use Rattle.std.proofs.lemmas.List.{length-map, map_push, take_more}
use Rattle.std.proofs.lemmas.List.Elements.{All-push}
use Rattle.std.proofs.lemmas.Slice.Eq.{bytes_eq-Decides}
use Rattle.wesl_tree_names.specs.Path.{Text}
use Rattle.wesl_tree_syntax.specs.Unit.{name_in}
use Rattle.wesl_scope_open.specs.Named.{AreDistinct}
use Rattle.wesl_scope_meanings.specs.Spellings.{AreSpellings}
use Rattle.wesl_scope_occurrences.proofs.Joined.{length-one}

at_map : {A B : Type 0} (f : A → B) (xs : List A) (i : ℕ) (d : A) (e : B) → i < length xs → get_or (map f xs) i e ≡ f (get_or xs i d)
at_map f [] i d e h = absurd (omega (arith, h))
at_map f (x ∷ xs) zero d e h = refl
at_map f (x ∷ xs) (suc i) d e h = at_map f xs i d e (omega (arith, h))

module _ (names texts : List Text) (alike : List ℕ) (s : AreSpellings names texts alike) where
  pub as_many : length alike ≡ length names
  as_many = sym (length-map alike (name_in texts)) ∙ ap length s.spelled

  -- the number of a name is that of a text
  pub spelled_below : (i : ℕ) → i < length names → get_or alike i 0 < length texts
  spelled_below i h = s.below i 0 (omega (arith, h, as_many))

  -- which is the name
  pub spelled_so : (i : ℕ) → i < length names → name_in texts (get_or alike i 0) ≡ name_in names i
  spelled_so i h = sym (at_map (name_in texts) alike i 0 [] (omega (arith, h, as_many))) ∙ ap (λ ns. name_in ns i) s.spelled

-- ---- one more name

pub get_before : {X : Type 0} (xs ys : List X) (i : ℕ) (d : X) → i < length xs → get_or (xs ++ ys) i d ≡ get_or xs i d
get_before [] ys i d h = absurd (omega (arith, h))
get_before (x ∷ xs) ys zero d h = refl
get_before (x ∷ xs) ys (suc i) d h = get_before xs ys i d (omega (arith, h))

get_last : {X : Type 0} (xs : List X) (y d : X) → get_or (xs ++ y ∷ []) (length xs) d ≡ y
get_last [] y d = refl
get_last (x ∷ xs) y d = get_last xs y d

none_any : (x : Text) (xs : List Text) (i : ℕ) → list_any (bytes_eq x) xs ≡ false → i < length xs → name_in xs i ≡ x → ⊥
none_any x [] i n h e = omega (arith, h)
none_any x (y ∷ xs) zero n h e = first (bytes_eq x y) (list_any (bytes_eq x) xs) n ((bytes_eq-Decides x y).1 (sym e))
  where
    first : (a b : Bool) → (a || b) ≡ false → a ≡ true → ⊥
    first true b k f = let z : ⊥ = cc in z
    first false b k f = let z : ⊥ = cc in z
none_any x (y ∷ xs) (suc i) n h e = none_any x xs i (second (bytes_eq x y) (list_any (bytes_eq x) xs) n) (omega (arith, h)) e
  where
    second : (a b : Bool) → (a || b) ≡ false → b ≡ false
    second true b k = absurd (let z : ⊥ = cc in z)
    second false b k = k

one_apart : (texts : List Text) (x : Text) → AreDistinct texts → list_any (bytes_eq x) texts ≡ false → AreDistinct (texts ++ x ∷ [])
one_apart texts x apart new i j hi hj e = by (cases_lt i (length texts)) (cases_lt j (length texts))
  where
    at_end : (k : ℕ) → k < length (texts ++ x ∷ []) → length texts ≤ k → k ≡ length texts
    at_end k h g = omega (arith, h, g, length-one texts x)

    old : (k : ℕ) → k < length texts → name_in (texts ++ x ∷ []) k ≡ name_in texts k
    old k h = get_before texts (x ∷ []) k [] h

    last : (k : ℕ) → k ≡ length texts → name_in (texts ++ x ∷ []) k ≡ x
    last k h = ap (name_in (texts ++ x ∷ [])) h ∙ get_last texts x []

    by : (i < length texts) ⊎ (length texts ≤ i) → (j < length texts) ⊎ (length texts ≤ j) → i ≡ j
    by (inl a) (inl b) = apart i j a b (sym (old i a) ∙ (e ∙ old j b))
    by (inl a) (inr b) = absurd (none_any x texts i new a (sym (old i a) ∙ (e ∙ last j (at_end j hj b))))
    by (inr a) (inl b) = absurd (none_any x texts j new b (sym (old j b) ∙ (sym e ∙ last i (at_end i hi a))))
    by (inr a) (inr b) = at_end i hi a ∙ sym (at_end j hj b)

abbrev text_put : List Text → Text → List Text
text_put texts x = if list_any (bytes_eq x) texts then texts else texts ++ x ∷ []

-- the texts after one was put: those before are as they were
record Grows (old new : List Text) : Type 0 where
  longer : length old ≤ length new
  same : (k : ℕ) → k < length old → name_in new k ≡ name_in old k

put_grows : (texts : List Text) (x : Text) → AreDistinct texts → AreDistinct (text_put texts x) × Grows texts (text_put texts x)
put_grows texts x apart = by (list_any (bytes_eq x) texts) refl
  where
    by : (b : Bool) → list_any (bytes_eq x) texts ≡ b → AreDistinct (if b then texts else texts ++ x ∷ []) × Grows texts (if b then texts else texts ++ x ∷ [])
    by true e = (apart, record { longer = omega arith; same = λ k h. refl })
    by false e = (one_apart texts x apart e, record { longer = omega (arith, length-one texts x); same = λ k h. get_before texts (x ∷ []) k [] h })

all_grown : (n m : ℕ) (xs : List ℕ) → n ≤ m → All (λ k. k < n) xs → All (λ k. k < m) xs
all_grown n m xs h a i d l = let r : get_or xs i d < n = a i d l in omega (arith, r, h)

same_names : (old new : List Text) → Grows old new → (xs : List ℕ) → All (λ k. k < length old) xs → map (name_in new) xs ≡ map (name_in old) xs
same_names old new g [] a = refl
same_names old new g (x ∷ xs) a = let e = g.same x (a 0 x (omega arith)) in let es = same_names old new g xs (λ i d l. a (suc i) d (omega (arith, l))) in rw (e, es) refl

pub next_spelled : (names texts new : List Text) (alike more : List ℕ) (i n : ℕ) (x : Text) → i < length names → x ≡ name_in names i → new ≡ text_put texts x → n < length new → name_in new n ≡ x → more ≡ alike ++ n ∷ []
    → AreSpellings (take i names) texts alike → AreSpellings (take (i + 1) names) new more
next_spelled names texts new alike more i n x h is put there so pushed s =
    let g = subst (λ ts. AreDistinct ts × Grows texts ts) (sym put) (put_grows texts x s.apart) in
    subst (λ ks. AreSpellings (take (i + 1) names) new ks) (sym pushed) (record {
      apart = g.0;
      below = All-push (λ k. k < length new) alike n (all_grown (length texts) (length new) alike g.1.longer s.below) there;
      spelled =
          map_push (name_in new) alike n
          ∙ (ap (λ ts. ts ++ name_in new n ∷ []) (same_names texts new g.1 alike s.below ∙ s.spelled) ∙ (ap (λ t. take i names ++ t ∷ []) (so ∙ is) ∙ sym (take_next names i h)));
    })
  where
    take_next : (xs : List Text) (i : ℕ) → i < length xs → take (i + 1) xs ≡ take i xs ++ name_in xs i ∷ []
    take_next xs i h = take_more xs i [] h

-- ---- keys that say texts
module _ {K : Type 0} (said : K → Text) where
  any_said : (x : Text) (ks : List K) → list_any (λ k. bytes_eq x (said k)) ks ≡ list_any (bytes_eq x) (map said ks)
  any_said x [] = refl
  any_said x (k ∷ ks) = ap (λ b. bytes_eq x (said k) || b) (any_said x ks)

  said_more : (ks : List K) (k : K) → map said (ks ++ k ∷ []) ≡ map said ks ++ said k ∷ []
  said_more [] k = refl
  said_more (x ∷ ks) k = ap (λ ts. said x ∷ ts) (said_more ks k)

  put_said : (ks : List K) (k : K) → map said (if list_any (λ x. bytes_eq (said k) (said x)) ks then ks else ks ++ k ∷ []) ≡ text_put (map said ks) (said k)
  put_said ks k = by (list_any (λ x. bytes_eq (said k) (said x)) ks) ∙ ap (λ b. if b then map said ks else map said ks ++ said k ∷ []) (any_said (said k) ks)
    where
      by : (b : Bool) → map said (if b then ks else ks ++ k ∷ []) ≡ (if b then map said ks else map said ks ++ said k ∷ [])
      by true = refl
      by false = said_more ks k

  said_at : (ks : List K) (i : ℕ) (k : K) → slice_get ks i ≡ Some k → (i < length (map said ks)) × (name_in (map said ks) i ≡ said k)
  said_at [] i k h = absurd (let z : ⊥ = cc in z)
  said_at (x ∷ ks) zero k h = (omega arith, let e : x ≡ k = cc in ap said e)
  said_at (x ∷ ks) (suc i) k h = let r = said_at ks i k h in (omega (arith, r.0), r.1)

  -- one more name is put among the keys
  pub next_put : (names : List Text) (old new : List K) (alike more : List ℕ) (i n : ℕ) (key : K) → i < length names → said key ≡ name_in names i
      → new ≡ (if list_any (λ x. bytes_eq (said key) (said x)) old then old else old ++ key ∷ []) → (k : K) × (slice_get new n ≡ Some k) × (bytes_eq (said key) (said k) ≡ true) → more ≡ alike ++ n ∷ []
      → AreSpellings (take i names) (map said old) alike → AreSpellings (take (i + 1) names) (map said new) more
  next_put names old new alike more i n key h is put stored pushed s =
      let (k, at, same) = stored in
      let r = said_at new n k at in
      next_spelled names (map said old) (map said new) alike more i n (said key) h is (ap (map said) put ∙ put_said old key) r.0 (r.1 ∙ sym ((bytes_eq-Decides (said key) (said k)).0 same)) pushed s

pub none_spelled : (names texts : List Text) (alike : List ℕ) → texts ≡ [] → alike ≡ [] → AreSpellings (take 0 names) texts alike
none_spelled names texts alike e f =
    subst (λ ts. AreSpellings (take 0 names) ts alike) (sym e) (subst (λ ks. AreSpellings (take 0 names) [] ks) (sym f) (record { apart = λ i j h. absurd (omega (arith, h)); below = λ k d h. absurd (omega (arith, h)); spelled = refl }))

pub all_spelled : (names texts : List Text) (alike : List ℕ) (i : ℕ) → length names ≤ i → AreSpellings (take i names) texts alike → AreSpellings names texts alike
all_spelled names texts alike i h s = subst (λ ns. AreSpellings ns texts alike) (take_all i names h) s
