-- Lists side by side, and lists that were picked or joined.
use Rattle.std.proofs.Common.{◌≡◌, ◌⊎◌, inl, inr, suc, List, [], ◌∷◌, ◌++◌, length, map, Contains, arith, refl, sym, subst, ap, ap₂, ◌∙◌}
use Rattle.std.proofs.lemmas.List.Elements.{Contains-append_cases, Contains-append_left, Contains-append_right}
use Rattle.std.proofs.lemmas.List.{map-append}
use Rattle.wesl_link_symbols.proofs.Lists.{contains_nil, contains_first, contains_later, contains_cases}
use Rattle.wesl_link_reach.proofs.Lists.{map_contains}
use Rattle.wesl_link_reach.specs.Faults.{AreDistinct}
use Rattle.wesl_link_reach.specs.Faults.AreDistinct.{one_more as one_distinct}
use Rattle.wesl_link_tables.specs.Numbering.{AreRelated}
use Rattle.wesl_link_laws.proofs.Alike.{Pairs}
use Rattle.wesl_link_engine.specs.Linked.{Selects, Joins}
use Rattle.wesl_link_engine.specs.Linked.{Selects as selects, Joins as joins}

-- two lists that are one, cut at one place
pub same_parts : {X : Type 0} (xs ys us vs : List X) → length xs ≡ length us → xs ++ ys ≡ us ++ vs → (xs ≡ us) × (ys ≡ vs)
same_parts [] ys [] vs l e = (refl, e)
same_parts [] ys (u ∷ us) vs l e = absurd (omega (arith, l))
same_parts (x ∷ xs) ys [] vs l e = absurd (omega (arith, l))
same_parts {X = X} (x ∷ xs) ys (u ∷ us) vs l e =
    let whole : x ∷ (xs ++ ys) ≡ u ∷ (us ++ vs) = e in
    let first : x ≡ u = cc in
    let rest : xs ++ ys ≡ us ++ vs = cc in
    let both = same_parts xs ys us vs (omega (arith, l)) rest in
    (ap₂ (λ (z : X) (zs : List X). z ∷ zs) first both.0, both.1)

-- ---- pairs
module _ {X Y : Type 0} (R : X → Y → Type 0) where
  pub pairs_length : (xs : List X) (ys : List Y) → Pairs R xs ys → length xs ≡ length ys
  pairs_length [] [] h = refl
  pairs_length (x ∷ xs) (y ∷ ys) h = ap suc (pairs_length xs ys h.1)
  pairs_length [] (y ∷ ys) h = absurd h
  pairs_length (x ∷ xs) [] h = absurd h

  pub pairs_left : (xs : List X) (ys : List Y) → Pairs R xs ys → (x : X) → Contains xs x → (y : Y) × Contains ys y × R x y
  pairs_left [] [] h x held = absurd (contains_nil x held)
  pairs_left [] (y ∷ ys) h x held = absurd h
  pairs_left (z ∷ xs) [] h x held = absurd h
  pairs_left (z ∷ xs) (y ∷ ys) h x held = by (contains_cases z x xs held) (pairs_left xs ys h.1 x)
    where
      by : (z ≡ x) ⊎ Contains xs x → (Contains xs x → (v : Y) × Contains ys v × R x v) → (v : Y) × Contains (y ∷ ys) v × R x v
      by (inl e) rest = (y, contains_first y ys, subst (λ u. R u y) e h.0)
      by (inr k) rest = let (v, there, r) = rest k in (v, contains_later y v ys there, r)

  pub pairs_right : (xs : List X) (ys : List Y) → Pairs R xs ys → (y : Y) → Contains ys y → (x : X) × Contains xs x × R x y
  pairs_right [] [] h y held = absurd (contains_nil y held)
  pairs_right [] (z ∷ ys) h y held = absurd h
  pairs_right (x ∷ xs) [] h y held = absurd h
  pairs_right (x ∷ xs) (z ∷ ys) h y held = by (contains_cases z y ys held) (pairs_right xs ys h.1 y)
    where
      by : (z ≡ y) ⊎ Contains ys y → (Contains ys y → (v : X) × Contains xs v × R v y) → (v : X) × Contains (x ∷ xs) v × R v y
      by (inl e) rest = (x, contains_first x xs, subst (λ u. R x u) e h.0)
      by (inr k) rest = let (v, there, r) = rest k in (v, contains_later x v xs there, r)

-- both of two relations
pub pairs_both : {X Y : Type 0} (R S T : X → Y → Type 0) → ((x : X) (y : Y) → R x y → S x y → T x y) → (xs : List X) (ys : List Y) → Pairs R xs ys → Pairs S xs ys → Pairs T xs ys
pairs_both R S T f [] [] h k = tt
pairs_both R S T f (x ∷ xs) (y ∷ ys) h k = (f x y h.0 k.0, pairs_both R S T f xs ys h.1 k.1)
pairs_both R S T f [] (y ∷ ys) h k = absurd h
pairs_both R S T f (x ∷ xs) [] h k = absurd h

-- lists that are related element by element, where both are mapped
pub related_pairs : {X Y A B : Type 0} (R : A → B → Type 0) (f : X → A) (g : Y → B) (xs : List X) (ys : List Y) → length xs ≡ length ys → AreRelated R (map f xs) (map g ys) → Pairs (λ x y. R (f x) (g y)) xs ys
related_pairs R f g [] [] l h = tt
related_pairs R f g (x ∷ xs) (y ∷ ys) l h = (h.0, related_pairs R f g xs ys (omega (arith, l)) h.1)
related_pairs R f g [] (y ∷ ys) l h = absurd (omega (arith, l))
related_pairs R f g (x ∷ xs) [] l h = absurd (omega (arith, l))

pub related_length : {X Y : Type 0} (R : X → Y → Type 0) (xs : List X) (ys : List Y) → AreRelated R xs ys → length xs ≡ length ys
related_length R [] [] h = refl
related_length R (x ∷ xs) (y ∷ ys) h = ap suc (related_length R xs ys h.1)
related_length R [] (y ∷ ys) h = absurd h
related_length R (x ∷ xs) [] h = absurd h

-- ---- one list for each, joined
module _ {X Y : Type 0} (R : X → List Y → Type 0) where
  abbrev pub JoinedSo : List X → List Y → Type 0
  JoinedSo [] ys = ys ≡ []
  JoinedSo (x ∷ xs) ys = (us : List Y) × (vs : List Y) × (ys ≡ us ++ vs) × R x us × Joins R xs vs

  pub joined_so : (xs : List X) (ys : List Y) → Joins R xs ys → JoinedSo xs ys
  joined_so _ _ joins.none = refl
  joined_so _ _ (joins.one_more x xs us vs r rest) = (us, vs, refl, r, rest)

-- ---- what is picked of mapped lists, and joined
module _ {X Y : Type 0} (f : X → Y) where
  pub selects_mapped : (Q : Y → Type 0) (xs : List X) (ys zs : List Y) → zs ≡ map f xs → Selects Q zs ys → (us : List X) × Selects (λ x. Q (f x)) xs us × (ys ≡ map f us)
  selects_mapped Q [] _ _ e selects.none = ([], selects.none, refl)
  selects_mapped Q (x ∷ xs) _ _ e selects.none = absurd (let z : ⊥ = cc in z)
  selects_mapped Q [] _ _ e (selects.taken y ws vs q s) = absurd (let z : ⊥ = cc in z)
  selects_mapped Q (x ∷ xs) _ _ e (selects.taken y ws vs q s) =
      let whole : y ∷ ws ≡ f x ∷ map f xs = e in
      let first : y ≡ f x = cc in
      let rest : ws ≡ map f xs = cc in
      let (us, picked, same) = selects_mapped Q xs vs ws rest s in
      (x ∷ us, selects.taken x xs us (subst Q first q) picked, ap₂ (λ (a : Y) (b : List Y). a ∷ b) first same)
  selects_mapped Q [] _ _ e (selects.left y ws vs n s) = absurd (let z : ⊥ = cc in z)
  selects_mapped Q (x ∷ xs) _ _ e (selects.left y ws vs n s) =
      let whole : y ∷ ws ≡ f x ∷ map f xs = e in
      let first : y ≡ f x = cc in
      let rest : ws ≡ map f xs = cc in
      let (us, picked, same) = selects_mapped Q xs vs ws rest s in
      (us, selects.left x xs us (λ q. n (subst Q (sym first) q)) picked, same)

module _ {X Y Z : Type 0} (f : X → Y) where
  pub joins_mapped : (R : Z → List Y → Type 0) (S : Z → List X → Type 0) (zs : List Z) (ys : List Y) → ((z : Z) → Contains zs z → (ys : List Y) → R z ys → (us : List X) × S z us × (ys ≡ map f us)) → Joins R zs ys → (us : List X) × Joins S zs us × (ys ≡ map f us)
  joins_mapped R S _ _ h joins.none = ([], joins.none, refl)
  joins_mapped R S _ _ h (joins.one_more z zs ys vs r rest) =
      let (us, s, e) = h z (contains_first z zs) ys r in
      let (ws, more, k) = joins_mapped R S zs vs (λ v c. h v (contains_later z v zs c)) rest in
      (us ++ ws, joins.one_more z zs us ws s more, ap₂ (λ (a b : List Y). a ++ b) e k ∙ sym (map-append f us ws))

-- ---- what is picked, and what is not
module _ {X : Type 0} (Q : X → Type 0) where
  pub selected_so : (xs ys : List X) (y : X) → Selects Q xs ys → Contains ys y → Contains xs y × Q y
  selected_so _ _ y selects.none c = absurd (contains_nil y c)
  selected_so _ _ y (selects.taken x xs ys q s) c = by (contains_cases x y ys c) (selected_so xs ys y s)
    where
      by : (x ≡ y) ⊎ Contains ys y → (Contains ys y → Contains xs y × Q y) → Contains (x ∷ xs) y × Q y
      by (inl e) rest = (subst (λ z. Contains (x ∷ xs) z) e (contains_first x xs), subst Q e q)
      by (inr d) rest = let r = rest d in (contains_later x y xs r.0, r.1)
  selected_so _ _ y (selects.left x xs ys n s) c = let r = selected_so xs ys y s c in (contains_later x y xs r.0, r.1)

  pub all_selected : (xs ys : List X) (x : X) → Selects Q xs ys → Contains xs x → Q x → Contains ys x
  all_selected _ _ x selects.none c q = absurd (contains_nil x c)
  all_selected _ _ x (selects.taken z xs ys k s) c q = by (contains_cases z x xs c) (λ d. all_selected xs ys x s d q)
    where
      by : (z ≡ x) ⊎ Contains xs x → (Contains xs x → Contains ys x) → Contains (z ∷ ys) x
      by (inl e) rest = subst (λ y. Contains (z ∷ ys) y) e (contains_first z ys)
      by (inr d) rest = contains_later z x ys (rest d)
  all_selected _ _ x (selects.left z xs ys n s) c q = by (contains_cases z x xs c) (λ d. all_selected xs ys x s d q)
    where
      by : (z ≡ x) ⊎ Contains xs x → (Contains xs x → Contains ys x) → Contains ys x
      by (inl e) rest = absurd (n (subst Q (sym e) q))
      by (inr d) rest = rest d

module _ {X Y : Type 0} (R : X → List Y → Type 0) where
  -- each of the lists is in the joined one
  pub all_joined : (xs : List X) (ys : List Y) (x : X) → Joins R xs ys → Contains xs x → (us : List Y) × R x us × ((y : Y) → Contains us y → Contains ys y)
  all_joined _ _ x joins.none c = absurd (contains_nil x c)
  all_joined _ _ x (joins.one_more z xs us vs r rest) c = by (contains_cases z x xs c) (all_joined xs vs x rest)
    where
      by : (z ≡ x) ⊎ Contains xs x → (Contains xs x → (ws : List Y) × R x ws × ((y : Y) → Contains ws y → Contains vs y)) → (ws : List Y) × R x ws × ((y : Y) → Contains ws y → Contains (us ++ vs) y)
      by (inl e) k = (us, subst (λ w. R w us) e r, λ y h. Contains-append_left us vs y h)
      by (inr d) k = let (ws, s, into) = k d in (ws, s, λ y h. Contains-append_right us vs y (into y h))

-- what stands in the joined list stands in one of the lists
pub joined_from : {X Z : Type 0} (R : Z → List X → Type 0) (xs : List Z) (ys : List X) (y : X) → Joins R xs ys → Contains ys y → (x : Z) × (ws : List X) × Contains xs x × R x ws × Contains ws y
joined_from R _ _ y joins.none c = absurd (contains_nil y c)
joined_from {X = X} {Z = Z} R _ _ y (joins.one_more x xs ws ys s more) c = by (Contains-append_cases ws ys y c) (joined_from R xs ys y more)
  where
    by : Contains ws y ⊎ Contains ys y → (Contains ys y → (v : Z) × (os : List X) × Contains xs v × R v os × Contains os y) → (v : Z) × (os : List X) × Contains (x ∷ xs) v × R v os × Contains os y
    by (inl i) k = (x, ws, contains_first x xs, s, i)
    by (inr i) k = let (v, os, a, b, e) = k i in (v, os, contains_later x v xs a, b, e)

-- ---- lists in which each comes before those after it
module _ {X : Type 0} (B : X → X → Type 0) where
  abbrev pub InOrder : List X → Type 0
  InOrder [] = Unit {0}
  InOrder (x ∷ xs) = ((y : X) → Contains xs y → B x y) × InOrder xs

  pub order_append : (xs ys : List X) → InOrder xs → InOrder ys → ((x y : X) → Contains xs x → Contains ys y → B x y) → InOrder (xs ++ ys)
  order_append [] ys h k b = k
  order_append (x ∷ xs) ys h k b = (
    λ y c. by y (Contains-append_cases xs ys y c),
    order_append xs ys h.1 k (λ z y i j. b z y (contains_later x z xs i) j),
  )
    where
      by : (y : X) → Contains xs y ⊎ Contains ys y → B x y
      by y (inl i) = h.0 y i
      by y (inr j) = b x y (contains_first x xs) j

  pub order_selected : (Q : X → Type 0) (xs ys : List X) → Selects Q xs ys → InOrder xs → InOrder ys
  order_selected Q _ _ selects.none h = tt
  order_selected Q _ _ (selects.taken x xs ys q s) h = (λ y c. h.0 y (selected_so Q xs ys y s c).0, order_selected Q xs ys s h.1)
  order_selected Q _ _ (selects.left x xs ys n s) h = order_selected Q xs ys s h.1

  -- lists in order, joined, where different ones are apart
  pub order_joined : {Z P : Type 0} (R : Z → List X → Type 0) (key : Z → P) → ((z : Z) (ys : List X) → R z ys → InOrder ys) → ((y z : Z) (x w : X) (ys zs : List X) → (key y ≡ key z → ⊥) → R y ys → R z zs → Contains ys x → Contains zs w → B x w)
      → (zs : List Z) (ys : List X) → AreDistinct (map key zs) → Joins R zs ys → InOrder ys
  order_joined R key each apart _ _ d joins.none = tt
  order_joined {Z = Z} R key each apart _ _ (one_distinct _ _ fresh d) (joins.one_more z zs us vs r rest) =
      order_append us vs (each z us r) (order_joined R key each apart zs vs d rest)
      (λ x y i j.
      let (w, ws, inside, s, k) = joined_from R zs vs y rest j in
      apart z w x y us ws (λ e. fresh (subst (λ p. Contains (map key zs) p) (sym e) (map_contains key zs w inside))) r s i k)
