-- Lists side by side.
use Rattle.std.proofs.Common.{◌≡◌, ◌⊎◌, inl, inr, ℕ, zero, suc, ◌<◌, ◌+◌, Some, List, [], ◌∷◌, ◌++◌, length, take, drop, map, get_or, Contains, arith, refl, sym, subst, ap, ◌∙◌, append_assoc, append-nil}
use Rattle.std.specs.Prelude.{slice_get, flat_map}
use Rattle.std.proofs.lemmas.List.Elements.{Contains-append_cases, Contains-append_left, Contains-append_right}
use Rattle.wesl_tree_names.specs.Path.{Text, Path}
use Rattle.wesl_tree_syntax.specs.Tree.{TreeOf}
use Rattle.wesl_tree_syntax.specs.Unit.{UnitOf}
use Rattle.wesl_link_symbols.proofs.Lists.{contains_nil, contains_first, contains_later, contains_cases}
use Rattle.wesl_scope_occurrences.specs.Pieces.{size, cut}
use Rattle.wesl_link_tables.specs.Numbering.{AreRelated}
use Rattle.wesl_link_tables.specs.Tables.{paired, scope_of, declaration_of, declarations_from}
use Rattle.wesl_link_tables.specs.Uses.{Use}
use Rattle.wesl_link_engine.specs.Linked.{Selects, Joins}
use Rattle.wesl_link_engine.specs.Linked.{Selects as selects, Joins as joins}
use Rattle.wesl_link_tables.proofs.Known.{below_held}

-- ---- what stands at a place

pub item_held : {X : Type 0} (xs : List X) (i : ℕ) (x : X) → i < length xs → x ≡ get_or xs i x → Contains xs x
item_held [] i x b e = absurd (omega arith)
item_held (y ∷ xs) zero x b e = subst (λ z. Contains (y ∷ xs) z) (sym e) (contains_first y xs)
item_held (y ∷ xs) (suc i) x b e = contains_later y x xs (item_held xs i x (omega arith) e)

pub read_at : {X : Type 0} (xs : List X) (i : ℕ) (x : X) → i < length xs → x ≡ get_or xs i x → slice_get xs i ≡ Some x
read_at xs i x b e = below_held xs i x b ∙ ap Some (sym e)

pub take_at : {X : Type 0} (xs : List X) (i : ℕ) (x : X) → slice_get xs i ≡ Some x → take (i + 1) xs ≡ take i xs ++ x ∷ []
take_at [] i x e = absurd (cc)
take_at (y ∷ xs) zero x e = let f : y ≡ x = cc in ap (λ z. z ∷ []) f
take_at (y ∷ xs) (suc i) x e = let n : suc i + 1 ≡ suc (i + 1) = omega arith in rw n (ap (λ l. y ∷ l) (take_at xs i x e))

pub paired_at : {X Y Z : Type 0} (f : X → Y → Z) (xs : List X) (ys : List Y) (i : ℕ) (x : X) (y : Y) → slice_get xs i ≡ Some x → slice_get ys i ≡ Some y → slice_get (paired f xs ys) i ≡ Some (f x y)
paired_at f [] ys i x y a b = absurd (cc)
paired_at f (u ∷ xs) [] i x y a b = absurd (cc)
paired_at f (u ∷ xs) (v ∷ ys) zero x y a b = let g : u ≡ x = cc in let h : v ≡ y = cc in ap (λ z. Some (f z v)) g ∙ ap (λ z. Some (f x z)) h
paired_at f (u ∷ xs) (v ∷ ys) (suc i) x y a b = paired_at f xs ys i x y a b

-- a declaration stands there under some number
module _ (own : Path) (unit : UnitOf Text) where
  pub declarations_at : (k : ℕ) (ts : List (TreeOf Text)) (uss : List (List (Use Path Text))) (i : ℕ) (t : TreeOf Text) (us : List (Use Path Text)) → slice_get ts i ≡ Some t → slice_get uss i ≡ Some us
      → (j : ℕ) × (slice_get (declarations_from (scope_of own unit) k ts uss) i ≡ Some (declaration_of (scope_of own unit) j t us))
  declarations_at k [] uss i t us a b = absurd (cc)
  declarations_at k (u ∷ ts) [] i t us a b = absurd (cc)
  declarations_at k (u ∷ ts) (v ∷ uss) zero t us a b =
      let s = scope_of own unit in let g : u ≡ t = cc in let h : v ≡ us = cc in (k, ap (λ z. Some (declaration_of s k z v)) g ∙ ap (λ z. Some (declaration_of s k t z)) h)
  declarations_at k (u ∷ ts) (v ∷ uss) (suc i) t us a b = declarations_at (suc k) ts uss i t us a b

pub related_at : {X Y : Type 0} (R : X → Y → Type 0) (xs : List X) (ys : List Y) → AreRelated R xs ys → (i : ℕ) (x : X) → slice_get xs i ≡ Some x → (y : Y) × (slice_get ys i ≡ Some y) × R x y
related_at R [] ys h i x e = absurd (cc)
related_at R (u ∷ xs) [] h i x e = absurd h
related_at R (u ∷ xs) (v ∷ ys) h zero x e = let f : u ≡ x = cc in (v, refl, subst (λ z. R z v) f h.0)
related_at R (u ∷ xs) (v ∷ ys) h (suc i) x e = related_at R xs ys h.1 i x e

-- ---- lengths

pub related_length : {X Y : Type 0} (R : X → Y → Type 0) (xs : List X) (ys : List Y) → AreRelated R xs ys → length ys ≡ length xs
related_length R [] [] h = refl
related_length R (x ∷ xs) (y ∷ ys) h = ap suc (related_length R xs ys h.1)
related_length R [] (y ∷ ys) h = absurd h
related_length R (x ∷ xs) [] h = absurd h

pub paired_length : {X Y Z : Type 0} (f : X → Y → Z) (xs : List X) (ys : List Y) → length ys ≡ length xs → length (paired f xs ys) ≡ length xs
paired_length f [] ys e = refl
paired_length f (x ∷ xs) [] e = absurd (omega arith)
paired_length f (x ∷ xs) (y ∷ ys) e = ap suc (paired_length f xs ys (omega arith))

module _ (own : Path) (unit : UnitOf Text) where
  pub declarations_length : (k : ℕ) (ts : List (TreeOf Text)) (uss : List (List (Use Path Text))) → length uss ≡ length ts → length (declarations_from (scope_of own unit) k ts uss) ≡ length ts
  declarations_length k [] uss e = refl
  declarations_length k (t ∷ ts) [] e = absurd (omega arith)
  declarations_length k (t ∷ ts) (us ∷ uss) e = ap suc (declarations_length (suc k) ts uss (omega arith))

pub cut_length : {I X : Type 0} (ts : List (TreeOf I)) (xs : List X) → length (cut ts xs) ≡ length ts
cut_length [] xs = refl
cut_length (t ∷ ts) xs = ap suc (cut_length ts (drop (size t) xs))

-- ---- lists of lists

pub in_flat_map : {X Y : Type 0} (g : X → List Y) (xs : List X) (x : X) (y : Y) → Contains xs x → Contains (g x) y → Contains (flat_map g xs) y
in_flat_map g [] x y h k = absurd (contains_nil x h)
in_flat_map {X} {Y} g (z ∷ xs) x y h k = by (contains_cases z x xs h) (in_flat_map g xs x y)
  where
    by : (z ≡ x) ⊎ Contains xs x → (Contains xs x → Contains (g x) y → Contains (flat_map g xs) y) → Contains (g z ++ flat_map g xs) y
    by (inl e) rest = Contains-append_left (g z) (flat_map g xs) y (subst (λ (w : X). Contains (g w) y) (sym e) k)
    by (inr c) rest = Contains-append_right (g z) (flat_map g xs) y (rest c k)

pub flat_map-map : {X Y Z : Type 0} (f : Y → List Z) (g : X → Y) (xs : List X) → flat_map f (map g xs) ≡ flat_map (λ x. f (g x)) xs
flat_map-map f g [] = refl
flat_map-map f g (x ∷ xs) = ap (λ l. f (g x) ++ l) (flat_map-map f g xs)

-- ---- what is selected, and what is joined

module _ {X : Type 0} (Q : X → Type 0) where
  pub selects_more : (xs us ys vs : List X) → Selects Q xs ys → Selects Q us vs → Selects Q (xs ++ us) (ys ++ vs)
  selects_more _ us _ vs selects.none k = k
  selects_more _ us _ vs (selects.taken x xs ys q s) k = selects.taken x (xs ++ us) (ys ++ vs) q (selects_more xs us ys vs s k)
  selects_more _ us _ vs (selects.left x xs ys n s) k = selects.left x (xs ++ us) (ys ++ vs) n (selects_more xs us ys vs s k)

  pub selected_in : (xs ys : List X) (z : X) → Selects Q xs ys → Contains ys z → Contains xs z
  selected_in _ _ z selects.none c = c
  selected_in _ _ z (selects.taken x xs ys q s) c = by (contains_cases x z ys c) (selected_in xs ys z s)
    where
      by : (x ≡ z) ⊎ Contains ys z → (Contains ys z → Contains xs z) → Contains (x ∷ xs) z
      by (inl e) rest = subst (λ w. Contains (x ∷ xs) w) e (contains_first x xs)
      by (inr d) rest = contains_later x z xs (rest d)
  selected_in _ _ z (selects.left x xs ys n s) c = contains_later x z xs (selected_in xs ys z s c)

module _ {X Y : Type 0} (R : X → List Y → Type 0) where
  pub joins_more : (xs us : List X) (ys vs : List Y) → Joins R xs ys → Joins R us vs → Joins R (xs ++ us) (ys ++ vs)
  joins_more _ us _ vs joins.none k = k
  joins_more _ us _ vs (joins.one_more x xs ys zs r s) k =
      subst (λ (l : List Y). Joins R (x ∷ (xs ++ us)) l) (sym (append_assoc ys zs vs)) (joins.one_more x (xs ++ us) ys (zs ++ vs) r (joins_more xs us zs vs s k))

  pub joins_one : (x : X) (ys : List Y) → R x ys → Joins R (x ∷ []) ys
  joins_one x ys r = subst (λ (l : List Y). Joins R (x ∷ []) l) (append-nil ys) (joins.one_more x [] ys [] r joins.none)

  -- what stands in the joined list stands in one of the lists
  pub joined_in : (xs : List X) (ys : List Y) (z : Y) → Joins R xs ys → Contains ys z → (x : X) × (us : List Y) × Contains xs x × R x us × Contains us z
  joined_in _ _ z joins.none c = absurd (contains_nil z c)
  joined_in _ _ z (joins.one_more x xs us ys r s) c = by (Contains-append_cases us ys z c) (joined_in xs ys z s)
    where
      by : Contains us z ⊎ Contains ys z → (Contains ys z → (w : X) × (vs : List Y) × Contains xs w × R w vs × Contains vs z) → (w : X) × (vs : List Y) × Contains (x ∷ xs) w × R w vs × Contains vs z
      by (inl d) rest = (x, us, contains_first x xs, r, d)
      by (inr d) rest = let (w, vs, a, b, e) = rest d in (w, vs, contains_later x w xs a, b, e)
