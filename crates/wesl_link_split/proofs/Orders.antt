-- The lowest of orders, and what has it; lists that are kept one by one.
use Rattle.std.proofs.Common.{◌≡◌, ◌⊎◌, inl, inr, ℕ, zero, suc, ◌+◌, ◌<◌, ◌≤◌, Bool, true, false, List, [], ◌∷◌, ◌++◌, map, drop, length, get_or, arith, refl, sym, ap, ap₂, ◌∙◌}
use Rattle.std.specs.Prelude.{Contains, nat_lt, not, ◌||◌, ◌==◌, flat_map, if◌then◌else◌}
use Rattle.std.specs.List.{filter, list_any}
use Rattle.std.proofs.lemmas.Bool.Decides.{Decides-eqb, Decides-ltb}
use Rattle.wesl_tree_base.specs.declared.ids.NameId.{NameId}
use Rattle.wesl_link_symbols.specs.declared.ids.PathId.{PathId}
use Rattle.wesl_link_split.specs.Grouped.{ids, IsLeast, one_if, asked_first}
use Rattle.wesl_link_split.specs.SightView.{aim_in}
use Rattle.wesl_link_split.specs.Split as split
use Rattle.wesl_link_split.specs.Split.{Binder, Scope}
use Rattle.wesl_link_split.specs.declared.binders.Aim.{Aim}
use Rattle.wesl_link_split.proofs.Grouping.{contained}
use Rattle.wesl_link_split.proofs.Targets.{found_true, none_false}

-- ---- lists

-- what is kept one by one is filtered
pub kept_flat : {X Y : Type 0} (p : X → Bool) (f : X → Y) (xs : List X) → flat_map (λ x. one_if (p x) (f x)) xs ≡ map f (filter p xs)
kept_flat p f [] = refl
kept_flat {X} {Y} p f (x ∷ xs) = by (p x) (kept_flat p f xs)
  where
    by : (b : Bool) → flat_map (λ y. one_if (p y) (f y)) xs ≡ map f (filter p xs) → one_if b (f x) ++ flat_map (λ y. one_if (p y) (f y)) xs ≡ map f (if b then x ∷ filter p xs else filter p xs)
    by true e = ap (λ (l : List Y). f x ∷ l) e
    by false e = e

pub filter_flat : {X : Type 0} (p : X → Bool) (xs : List X) → flat_map (λ x. one_if (p x) x) xs ≡ filter p xs
filter_flat p [] = refl
filter_flat {X} p (x ∷ xs) = by (p x) (filter_flat p xs)
  where
    by : (b : Bool) → flat_map (λ y. one_if (p y) y) xs ≡ filter p xs → one_if b x ++ flat_map (λ y. one_if (p y) y) xs ≡ (if b then x ∷ filter p xs else filter p xs)
    by true e = ap (λ (l : List X). x ∷ l) e
    by false e = e

filter_map : {X Y : Type 0} (p : Y → Bool) (f : X → Y) (xs : List X) → filter p (map f xs) ≡ map f (filter (λ x. p (f x)) xs)
filter_map p f [] = refl
filter_map {X} {Y} p f (x ∷ xs) = by (p (f x)) (filter_map p f xs)
  where
    by : (b : Bool) → filter p (map f xs) ≡ map f (filter (λ y. p (f y)) xs) → (if b then f x ∷ filter p (map f xs) else filter p (map f xs)) ≡ map f (if b then x ∷ filter (λ y. p (f y)) xs else filter (λ y. p (f y)) xs)
    by true e = ap (λ (l : List Y). f x ∷ l) e
    by false e = e

pub any_map : {X Y : Type 0} (p : Y → Bool) (f : X → Y) (xs : List X) → list_any p (map f xs) ≡ list_any (λ x. p (f x)) xs
any_map p f [] = refl
any_map p f (x ∷ xs) = ap (λ b. p (f x) || b) (any_map p f xs)

map_map : {X Y Z : Type 0} (g : Y → Z) (f : X → Y) (xs : List X) → map g (map f xs) ≡ map (λ x. g (f x)) xs
map_map g f [] = refl
map_map {X} {Y} {Z} g f (x ∷ xs) = ap (λ (l : List Z). g (f x) ∷ l) (map_map g f xs)

pub map_long : {X Y : Type 0} (f : X → Y) (xs : List X) → length (map f xs) ≡ length xs
map_long f [] = refl
map_long f (x ∷ xs) = ap suc (map_long f xs)

-- what stands at one place of a list, and of its image
pub image_at : {X Y : Type 0} (f : X → Y) (xs : List X) (ys : List Y) (i : ℕ) (x : X) (y : Y) → ys ≡ map f xs → i < length xs → x ≡ get_or xs i x → y ≡ get_or ys i y → y ≡ f x
image_at f [] ys i x y e h p q = absurd (omega (arith, h))
image_at f (u ∷ xs) [] i x y e h p q = absurd (let z : ⊥ = cc in z)
image_at f (u ∷ xs) (v ∷ ys) zero x y e h p q = let z : v ≡ f u = cc in q ∙ (z ∙ ap f (sym p))
image_at f (u ∷ xs) (v ∷ ys) (suc i) x y e h p q = let z : ys ≡ map f xs = cc in image_at f xs ys i x y z (omega (arith, h)) p q

pub filter_alike : {X : Type 0} (p q : X → Bool) (xs : List X) → ((x : X) → Contains xs x → p x ≡ q x) → filter p xs ≡ filter q xs
filter_alike p q [] h = refl
filter_alike {X} p q (x ∷ xs) h =
    ap₂ (λ b l. if b then x ∷ l else l) (h x (0, omega arith, refl)) (filter_alike p q xs (λ y c. h y (later c)))
  where
    later : {y : X} → Contains xs y → Contains (x ∷ xs) y
    later (k, l, at) = (suc k, omega (arith, l), at)

-- ---- the lowest of numbers

earlier : {X : Type 0} (xs : List X) (x y : X) → Contains xs y → Contains (xs ++ x ∷ []) y
earlier [] x y (k, l, e) = absurd (omega (arith, l))
earlier (z ∷ xs) x y (zero, l, e) = (0, omega arith, e)
earlier (z ∷ xs) x y (suc k, l, e) = let (j, m, f) = earlier xs x y (k, omega (arith, l), e) in (suc j, omega (arith, m), f)

latest : {X : Type 0} (xs : List X) (x : X) → Contains (xs ++ x ∷ []) x
latest [] x = (0, omega arith, refl)
latest (z ∷ xs) x = let (j, m, f) = latest xs x in (suc j, omega (arith, m), f)

at_least : (m n : ℕ) → (n < m → ⊥) → m ≤ n
at_least m n h = by (m_cases m n)
  where
    m_cases : (m n : ℕ) → (m ≤ n) ⊎ (n < m)
    m_cases zero n = inl (omega arith)
    m_cases (suc m) zero = inr (omega arith)
    m_cases (suc m) (suc n) = elim (m_cases m n) [ inl e ↦ inl (omega (arith, e)) | inr e ↦ inr (omega (arith, e)) ]

    by : (m ≤ n) ⊎ (n < m) → m ≤ n
    by (inl e) = e
    by (inr e) = absurd (h e)

above : (m n : ℕ) → m ≤ n → (n ≡ m → ⊥) → m < n
above zero zero h d = absurd (d refl)
above zero (suc n) h d = omega arith
above (suc m) zero h d = absurd (omega (arith, h))
above (suc m) (suc n) h d = omega (arith, above m n (omega (arith, h)) (λ e. d (ap suc e)))

pub least_one : (n : ℕ) → IsLeast (n ∷ []) n
least_one n = (only, (0, omega arith, refl))
  where
    only : (m : ℕ) → Contains (n ∷ []) m → n ≤ m
    only m (zero, l, e) = let f : n ≡ m = e in omega (arith, f)
    only m (suc k, l, e) = absurd (omega (arith, l))

-- one more
pub least_next : (ns : List ℕ) (m n : ℕ) → IsLeast ns n → IsLeast (ns ++ m ∷ []) (if nat_lt m n then m else n)
least_next ns m n (low, has) = by (nat_lt m n) refl
  where
    by : (b : Bool) → nat_lt m n ≡ b → IsLeast (ns ++ m ∷ []) (if b then m else n)
    by true e =
        let less : m < n = (Decides-ltb m n).0 e in
        ((λ k c. elim (contained ns m k c) [ inl d ↦ omega (arith, less, low k d) | inr q ↦ let f : m ≡ k = q in omega (arith, f) ]), latest ns m)
    by false e =
        let not_less : m < n → ⊥ = λ h. (let t : nat_lt m n ≡ true = (Decides-ltb m n).1 h in let z : ⊥ = cc in z) in
        ((λ k c. elim (contained ns m k c) [ inl d ↦ low k d | inr q ↦ let f : m ≡ k = q in omega (arith, f, at_least n m not_less) ]), earlier ns m n has)

-- of these, those that have the lowest order are those before which none is
module _ {X : Type 0} (order : X → ℕ) (first : X) (xs : List X) (n : ℕ) (held : Contains xs first) (least : IsLeast (order first ∷ map order xs) n) where
  mapped_in : (x : X) (ys : List X) → Contains ys x → Contains (map order ys) (order x)
  mapped_in x [] (k, l, e) = absurd (omega (arith, l))
  mapped_in x (y ∷ ys) (zero, l, e) = (0, omega arith, ap order e)
  mapped_in x (y ∷ ys) (suc k, l, e) = let (j, m, f) = mapped_in x ys (k, omega (arith, l), e) in (suc j, omega (arith, m), f)

  ordered_in : (m : ℕ) (ys : List X) → Contains (map order ys) m → (y : X) × Contains ys y × (order y ≡ m)
  ordered_in m [] (k, l, e) = absurd (omega (arith, l))
  ordered_in m (y ∷ ys) (zero, l, e) = (y, (0, omega arith, refl), e)
  ordered_in m (y ∷ ys) (suc k, l, e) = let (z, (j, h, g), q) = ordered_in m ys (k, omega (arith, l), e) in (z, (suc j, omega (arith, h), g), q)

  low : (x : X) → Contains xs x → n ≤ order x
  low x c = let (k, l, e) = mapped_in x xs c in least.0 (order x) (suc k, omega (arith, l), e)

  -- the one that has it
  lowest_one : (x : X) × Contains xs x × (order x ≡ n)
  lowest_one = from least.1
    where
      from : Contains (order first ∷ map order xs) n → (x : X) × Contains xs x × (order x ≡ n)
      from (zero, l, e) = (first, held, e)
      from (suc k, l, e) = ordered_in n xs (k, omega (arith, l), e)

  pub lowest_test : (x : X) → Contains xs x → not (list_any (λ y. nat_lt (order y) (order x)) xs) ≡ (order x == n)
  lowest_test x c = by (order x == n) refl
    where
      none_lower : order x ≡ n → (y : X) → Contains xs y → nat_lt (order y) (order x) ≡ false
      none_lower e y h = no (nat_lt (order y) (order x)) refl
        where
          no : (b : Bool) → nat_lt (order y) (order x) ≡ b → nat_lt (order y) (order x) ≡ false
          no false q = q
          no true q = absurd (let less : order y < order x = (Decides-ltb (order y) (order x)).0 q in omega (arith, less, e, low y h))

      some_lower : (order x ≡ n → ⊥) → list_any (λ y. nat_lt (order y) (order x)) xs ≡ true
      some_lower apart =
          let (y, h, same) = lowest_one in
          found_true (λ z. nat_lt (order z) (order x)) xs y h ((Decides-ltb (order y) (order x)).1 (omega (arith, same, above n (order x) (low x c) apart)))

      by : (b : Bool) → (order x == n) ≡ b → not (list_any (λ y. nat_lt (order y) (order x)) xs) ≡ (order x == n)
      by true e = ap not (none_false (λ y. nat_lt (order y) (order x)) xs (none_lower ((Decides-eqb (order x) n).0 e))) ∙ sym e
      by false e = ap not (some_lower (λ q. (let t : (order x == n) ≡ true = (Decides-eqb (order x) n).1 q in let z : ⊥ = cc in z))) ∙ sym e

-- ---- what is asked first

-- what binders aim at, of those that are asked first
pub asked_aims : (s : Scope PathId NameId) (bs : List (Binder PathId NameId)) → asked_first (map (aim_in s) bs) ≡ map (split.aim_of ids s) (split.lowest ids s bs)
asked_aims s bs =
    ap (map (λ (x : Aim). x.reference)) (filter_map first (aim_in s) bs)
    ∙ (map_map (λ (x : Aim). x.reference) (aim_in s) (filter (λ b. first (aim_in s b)) bs)
    ∙ ap (map (split.aim_of ids s)) (filter_alike (λ b. first (aim_in s b)) lowest bs (λ b c. ap not (any_map (λ y. nat_lt y.order (order b)) (aim_in s) bs))))
  where
    order : Binder PathId NameId → ℕ
    order b = split.order_of ids (split.finding ids s b)

    first : Aim → Bool
    first x = not (list_any (λ y. nat_lt y.order x.order) (map (aim_in s) bs))

    lowest : Binder PathId NameId → Bool
    lowest b = not (list_any (λ c. nat_lt (split.order_of ids (split.finding ids s c)) (split.order_of ids (split.finding ids s b))) bs)

-- ---- the first that asks

pub drop_found : {X : Type 0} (p : X → Bool) (xs : List X) (i : ℕ) (x : X) → i < length xs → x ≡ get_or xs i x → p x ≡ true → filter p (drop i xs) ≡ x ∷ filter p (drop (i + 1) xs)
drop_found p [] i x h e t = absurd (omega (arith, h))
drop_found p (y ∷ xs) zero x h e t =
    ap (λ z. if p z then z ∷ filter p xs else filter p xs) (sym e) ∙ ap (λ b. if b then x ∷ filter p xs else filter p xs) t
drop_found p (y ∷ xs) (suc i) x h e t = let n : suc i + 1 ≡ suc (i + 1) = omega arith in rw n (drop_found p xs i x (omega (arith, h)) e t)

pub drop_missed : {X : Type 0} (p : X → Bool) (xs : List X) (i : ℕ) (x : X) → i < length xs → x ≡ get_or xs i x → p x ≡ false → filter p (drop i xs) ≡ filter p (drop (i + 1) xs)
drop_missed p [] i x h e t = absurd (omega (arith, h))
drop_missed p (y ∷ xs) zero x h e t =
    ap (λ z. if p z then z ∷ filter p xs else filter p xs) (sym e) ∙ ap (λ b. if b then x ∷ filter p xs else filter p xs) t
drop_missed p (y ∷ xs) (suc i) x h e t = let n : suc i + 1 ≡ suc (i + 1) = omega arith in rw n (drop_missed p xs i x (omega (arith, h)) e t)

-- what stands at one place of lists with equal images
pub mapped_at : {X Y Z : Type 0} (f : X → Z) (g : Y → Z) (xs : List X) (ys : List Y) (i : ℕ) (x : X) (y : Y) → map f xs ≡ map g ys → i < length ys → x ≡ get_or xs i x → y ≡ get_or ys i y → f x ≡ g y
mapped_at f g xs [] i x y e h p q = absurd (omega (arith, h))
mapped_at f g [] (v ∷ ys) i x y e h p q = absurd (let z : ⊥ = cc in z)
mapped_at f g (u ∷ xs) (v ∷ ys) zero x y e h p q = let z : f u ≡ g v = cc in ap f p ∙ (z ∙ ap g (sym q))
mapped_at f g (u ∷ xs) (v ∷ ys) (suc i) x y e h p q = let z : map f xs ≡ map g ys = cc in mapped_at f g xs ys i x y z (omega (arith, h)) p q

pub itself : {X : Type 0} (xs : List X) (i : ℕ) (d : X) → i < length xs → get_or xs i d ≡ get_or xs i (get_or xs i d)
itself [] i d h = absurd (omega (arith, h))
itself (x ∷ xs) zero d h = refl
itself (x ∷ xs) (suc i) d h = itself xs i d (omega (arith, h))
