-- The binders of each name, as one more is put to those of its name.
use Rattle.std.proofs.Common.{◌≡◌, ◌⊎◌, inl, inr, ℕ, zero, suc, ◌<◌, Bool, true, false, ◌||◌, Some, List, [], ◌∷◌, ◌++◌, map, length, get_or, arith, refl, sym, subst, ap, ◌∙◌, append-nil}
use Rattle.std.specs.Prelude.{Contains, slice_get, set, if◌then◌else◌}
use Rattle.std.specs.Global.{Vec}
use Rattle.std.specs.List.{filter, list_any, position}
use Rattle.std.proofs.lemmas.Bool.Decides.{Decides-eqb}
use Rattle.std.proofs.lemmas.List.Folds.{list_any-append}
use Rattle.std.proofs.lemmas.List.Quantifiers.{position-Some}
use Rattle.wesl_tree_base.specs.declared.ids.NameId.{NameId}
use Rattle.wesl_link_symbols.specs.declared.ids.PathId.{PathId}
use Rattle.wesl_link_split.specs.Grouped.{ids, same_id, AreGrouped, facts_of}
use Rattle.wesl_link_split.specs.Split as split
use Rattle.wesl_link_split.specs.Split.{Binder}
use Rattle.wesl_link_split.specs.declared.binders.Facts.{Facts}
use Rattle.wesl_tree_interner.proofs.Different.{added, get_cases, none_passes}
use Rattle.wesl_link_split.proofs.Lists.{length_one}
use Rattle.wesl_link_split.proofs.Targets.{found_true, any_there, same_bool}

abbrev Ours : Type 0
Ours = Binder PathId NameId

abbrev Group : Type 0
Group = Vec Ours

-- ---- lists

pub get_set : {X : Type 0} (xs : List X) (i : ℕ) (x : X) → i < length xs → slice_get (set xs i x) i ≡ Some x
get_set [] i x h = absurd (omega (arith, h))
get_set (y ∷ xs) zero x h = refl
get_set (y ∷ xs) (suc i) x h = get_set xs i x (omega (arith, h))

pub get_other : {X : Type 0} (xs : List X) (i j : ℕ) (x : X) → (i ≡ j → ⊥) → slice_get (set xs i x) j ≡ slice_get xs j
get_other [] i j x n = refl
get_other (y ∷ xs) zero zero x n = absurd (n refl)
get_other (y ∷ xs) zero (suc j) x n = refl
get_other (y ∷ xs) (suc i) zero x n = refl
get_other (y ∷ xs) (suc i) (suc j) x n = get_other xs i j x (λ e. n (ap suc e))

set_length : {X : Type 0} (xs : List X) (i : ℕ) (x : X) → length (set xs i x) ≡ length xs
set_length [] i x = refl
set_length (y ∷ xs) zero x = refl
set_length (y ∷ xs) (suc i) x = ap suc (set_length xs i x)

pub get_below : {X : Type 0} (xs : List X) (i : ℕ) (x : X) → slice_get xs i ≡ Some x → i < length xs
get_below [] i x h = absurd (cc)
get_below (z ∷ xs) zero x h = omega arith
get_below (z ∷ xs) (suc i) x h = omega (arith, get_below xs i x h)

pub get_contained : {X : Type 0} (xs : List X) (i : ℕ) (x : X) → slice_get xs i ≡ Some x → Contains xs x
get_contained [] i x h = absurd (cc)
get_contained (z ∷ xs) zero x h = (0, omega arith, cc)
get_contained (z ∷ xs) (suc i) x h = let (k, l, e) = get_contained xs i x h in (suc k, omega (arith, l), e)

get_last : {X : Type 0} (xs : List X) (x : X) → slice_get (xs ++ x ∷ []) (length xs) ≡ Some x
get_last [] x = refl
get_last (y ∷ xs) x = get_last xs x

filter_last : {X : Type 0} (p : X → Bool) (xs : List X) (x : X) → filter p (xs ++ x ∷ []) ≡ filter p xs ++ (if p x then x ∷ [] else [])
filter_last p [] x = refl
filter_last p (y ∷ xs) x = by (p y) (filter_last p xs x)
  where
    by : (b : Bool) → filter p (xs ++ x ∷ []) ≡ filter p xs ++ (if p x then x ∷ [] else []) → (if b then y ∷ filter p (xs ++ x ∷ []) else filter p (xs ++ x ∷ [])) ≡ (if b then y ∷ filter p xs else filter p xs) ++ (if p x then x ∷ [] else [])
    by true e = ap (λ l. y ∷ l) e
    by false e = e

filter_none : {X : Type 0} (p : X → Bool) (xs : List X) → ((x : X) → Contains xs x → p x ≡ false) → filter p xs ≡ []
filter_none p [] h = refl
filter_none {X} p (x ∷ xs) h =
    ap (λ b. if b then x ∷ filter p xs else filter p xs) (h x (0, omega arith, refl)) ∙ filter_none p xs (λ y c. h y (later c))
  where
    later : {y : X} → Contains xs y → Contains (x ∷ xs) y
    later (k, l, at) = (suc k, omega (arith, l), at)

pub contained : {X : Type 0} (xs : List X) (x y : X) → Contains (xs ++ x ∷ []) y → Contains xs y ⊎ (x ≡ y)
contained [] x y (zero, l, e) = inr e
contained [] x y (suc k, l, e) = absurd (omega (arith, l))
contained (z ∷ xs) x y (zero, l, e) = inl (0, omega arith, e)
contained (z ∷ xs) x y (suc k, l, e) = elim (contained xs x y (k, omega (arith, l), e)) [ inl (j, m, f) ↦ inl (suc j, omega (arith, m), f) | inr f ↦ inr f ]

filter_first : {X : Type 0} (p : X → Bool) (xs : List X) → (filter p xs ≡ []) ⊎ ((x : X) × (Contains xs x × (p x ≡ true)))
filter_first p [] = inl refl
filter_first {X} p (x ∷ xs) = by (p x) refl (filter_first p xs)
  where
    by : (b : Bool) → p x ≡ b → (filter p xs ≡ []) ⊎ ((y : X) × (Contains xs y × (p y ≡ true))) → ((if b then x ∷ filter p xs else filter p xs) ≡ []) ⊎ ((y : X) × (Contains (x ∷ xs) y × (p y ≡ true)))
    by true e r = inr (x, ((0, omega arith, refl), e))
    by false e (inl none) = inl none
    by false e (inr (y, ((k, l, f), t))) = inr (y, ((suc k, omega (arith, l), f), t))

id_same : (n : NameId) → same_id n n ≡ true
id_same n = (Decides-eqb n.0 n.0).1 refl

pub id_is : (m n : NameId) → same_id m n ≡ true → m ≡ n
id_is m n e = ap (λ (k : ℕ). record { 0 = k }) ((Decides-eqb m.0 n.0).0 e)

not_same : (m n : NameId) → same_id m n ≡ false → m ≡ n → ⊥
not_same m n f e = let t : same_id m n ≡ true = (Decides-eqb m.0 n.0).1 (ap (λ (x : NameId). x.0) e) in let z : ⊥ = cc in z

by_cases : (b : Bool) → (b ≡ true) ⊎ (b ≡ false)
by_cases true = inl refl
by_cases false = inr refl

-- ---- the binders of each name

module _ (bs : List Ours) (ns : List NameId) (gs : List Group) (b : Ours) (h : AreGrouped bs ns gs) where
  of_more : (n : NameId) → split.of_name ids n (bs ++ b ∷ []) ≡ split.of_name ids n bs ++ (if same_id n b.bound then b ∷ [] else [])
  of_more n = filter_last (λ c. same_id n c.bound) bs b

  of_other : (n : NameId) → same_id n b.bound ≡ false → split.of_name ids n (bs ++ b ∷ []) ≡ split.of_name ids n bs
  of_other n e = of_more n ∙ (ap (λ x. split.of_name ids n bs ++ (if x then b ∷ [] else [])) e ∙ append-nil (split.of_name ids n bs))

  of_own : split.of_name ids b.bound (bs ++ b ∷ []) ≡ split.of_name ids b.bound bs ++ b ∷ []
  of_own = of_more b.bound ∙ ap (λ x. split.of_name ids b.bound bs ++ (if x then b ∷ [] else [])) (id_same b.bound)

  all_more : (new : List NameId) → ((n : NameId) → list_any (same_id n) ns ≡ true → list_any (same_id n) new ≡ true) → list_any (same_id b.bound) new ≡ true → (c : Ours) → Contains (bs ++ b ∷ []) c → list_any (same_id c.bound) new ≡ true
  all_more new keeps own c d = by (contained bs b c d)
    where
      by : Contains bs c ⊎ (b ≡ c) → list_any (same_id c.bound) new ≡ true
      by (inl e) = keeps c.bound (h.all c e)
      by (inr f) = subst (λ (x : Ours). list_any (same_id x.bound) new ≡ true) f own

  -- a name that is there gets one binder more
  module _ (k : ℕ) (g more : Group) (at : slice_get ns k ≡ Some b.bound) (held : slice_get gs k ≡ Some g) (e : more.items ≡ g.items ++ b ∷ []) where
    there_own : (i : ℕ) (n : NameId) (x : Group) → slice_get ns i ≡ Some n → slice_get (set gs k more) i ≡ Some x → same_id n b.bound ≡ true → x.items ≡ split.of_name ids n (bs ++ b ∷ [])
    there_own i n x named there t =
        let same : n ≡ b.bound = id_is n b.bound t in
        let place : i ≡ k = h.different i k b.bound (named ∙ ap Some same) at in
        let is : Some x ≡ Some more = sym there ∙ (ap (slice_get (set gs k more)) place ∙ get_set gs k more (get_below gs k g held)) in
        let x_is : x ≡ more = cc in
        ap (λ (v : Group). v.items) x_is ∙ (e ∙ (ap (λ l. l ++ b ∷ []) (h.each k b.bound g at held) ∙ (sym of_own ∙ ap (λ m. split.of_name ids m (bs ++ b ∷ [])) (sym same))))

    there_other : (i : ℕ) (n : NameId) (x : Group) → slice_get ns i ≡ Some n → slice_get (set gs k more) i ≡ Some x → same_id n b.bound ≡ false → x.items ≡ split.of_name ids n (bs ++ b ∷ [])
    there_other i n x named there f =
        let apart : k ≡ i → ⊥ = λ q. not_same n b.bound f (let r : Some n ≡ Some b.bound = sym named ∙ (ap (slice_get ns) (sym q) ∙ at) in let s : n ≡ b.bound = cc in s) in
        h.each i n x named (sym (get_other gs k i more apart) ∙ there) ∙ sym (of_other n f)

    there_each : (i : ℕ) (n : NameId) (x : Group) → slice_get ns i ≡ Some n → slice_get (set gs k more) i ≡ Some x → x.items ≡ split.of_name ids n (bs ++ b ∷ [])
    there_each i n x named there = elim (by_cases (same_id n b.bound)) [ inl t ↦ there_own i n x named there t | inr f ↦ there_other i n x named there f ]

    pub grouped_there : AreGrouped (bs ++ b ∷ []) ns (set gs k more)
    grouped_there = record {
      different = h.different;
      long = set_length gs k more ∙ h.long;
      each = there_each;
      all = all_more ns (λ n t. t) (found_true (same_id b.bound) ns b.bound (get_contained ns k b.bound at) (id_same b.bound));
    }

  -- one that is not gets its first
  module _ (g : Group) (none : list_any (same_id b.bound) ns ≡ false) (e : g.items ≡ b ∷ []) where
    not_there : (i : ℕ) → slice_get ns i ≡ Some b.bound → ⊥
    not_there i at = none_passes (same_id b.bound) ns i b.bound none at (id_same b.bound)

    of_none : split.of_name ids b.bound bs ≡ []
    of_none = filter_none (λ c. same_id b.bound c.bound) bs (λ c d. by c d (by_cases (same_id b.bound c.bound)))
      where
        by : (c : Ours) → Contains bs c → (same_id b.bound c.bound ≡ true) ⊎ (same_id b.bound c.bound ≡ false) → same_id b.bound c.bound ≡ false
        by c d (inr f) = f
        by c d (inl t) = absurd (let l : list_any (same_id b.bound) ns ≡ true = subst (λ m. list_any (same_id m) ns ≡ true) (sym (id_is b.bound c.bound t)) (h.all c d) in let z : ⊥ = cc in z)

    first_each : (i : ℕ) (n : NameId) (x : Group) → slice_get (ns ++ b.bound ∷ []) i ≡ Some n → slice_get (gs ++ g ∷ []) i ≡ Some x → x.items ≡ split.of_name ids n (bs ++ b ∷ [])
    first_each i n x named there = by (get_cases ns b.bound i n named) (get_cases gs g i x there)
      where
        by : (slice_get ns i ≡ Some n) ⊎ ((i ≡ length ns) × (b.bound ≡ n)) → (slice_get gs i ≡ Some x) ⊎ ((i ≡ length gs) × (g ≡ x)) → x.items ≡ split.of_name ids n (bs ++ b ∷ [])
        by (inl at) (inl held) = h.each i n x at held ∙ sym (of_other n (elim (by_cases (same_id n b.bound)) [
          | inl t ↦ absurd (not_there i (at ∙ ap Some (id_is n b.bound t)))
          | inr f ↦ f
        ]))
        by (inl at) (inr (l, f)) = absurd (omega (arith, get_below ns i n at, l, h.long))
        by (inr (l, f)) (inl held) = absurd (omega (arith, get_below gs i x held, l, h.long))
        by (inr (l, f)) (inr (m, q)) =
            ap (λ (v : Group). v.items) (sym q) ∙ (e ∙ (ap (λ zs. zs ++ b ∷ []) (sym of_none) ∙ (sym of_own ∙ ap (λ m. split.of_name ids m (bs ++ b ∷ [])) f)))

    any_longer : (n : NameId) → list_any (same_id n) ns ≡ true → list_any (same_id n) (ns ++ b.bound ∷ []) ≡ true
    any_longer n t = list_any-append (same_id n) ns (b.bound ∷ []) ∙ ap (λ x. x || list_any (same_id n) (b.bound ∷ [])) t

    pub grouped_first : AreGrouped (bs ++ b ∷ []) (ns ++ b.bound ∷ []) (gs ++ g ∷ [])
    grouped_first = record {
      different = added ns b.bound h.different not_there;
      long = length_one gs g ∙ (ap suc h.long ∙ sym (length_one ns b.bound));
      each = first_each;
      all = all_more (ns ++ b.bound ∷ []) any_longer (found_true (same_id b.bound) (ns ++ b.bound ∷ []) b.bound (get_contained (ns ++ b.bound ∷ []) (length ns) b.bound (get_last ns b.bound)) (id_same b.bound));
    }

pub grouped_none : AreGrouped [] [] []
grouped_none = record {
  different = λ i j x g h. absurd (let z : ⊥ = cc in z);
  long = refl;
  each = λ i n g h k. absurd (let z : ⊥ = cc in z);
  all = λ b (k, l, e). absurd (omega (arith, l));
}

-- ---- the binders of a name, found by it

pub held_at : {X : Type 0} (xs : List X) (i : ℕ) (x : X) → i < length xs → x ≡ get_or xs i x → slice_get xs i ≡ Some x
held_at [] i x h e = absurd (omega (arith, h))
held_at (y ∷ xs) zero x h e = ap Some (sym e)
held_at (y ∷ xs) (suc i) x h e = held_at xs i x (omega (arith, h)) e

pub name_at : (n : NameId) (ns : List NameId) (i : ℕ) → position (same_id n) ns ≡ Some i → slice_get ns i ≡ Some n
name_at n [] i h = absurd (cc)
name_at n (m ∷ ns) i h =
    let found = position-Some (same_id n) (m ∷ ns) i m h in
    let there : slice_get (m ∷ ns) i ≡ Some (get_or (m ∷ ns) i m) = got (m ∷ ns) i m found.0 in
    there ∙ ap Some (sym (id_is n (get_or (m ∷ ns) i m) found.1))
  where
    got : (xs : List NameId) (i : ℕ) (d : NameId) → i < length xs → slice_get xs i ≡ Some (get_or xs i d)
    got [] i d h = absurd (omega (arith, h))
    got (y ∷ xs) zero d h = refl
    got (y ∷ xs) (suc i) d h = got xs i d (omega (arith, h))

pub none_named : (bs : List Ours) (ns : List NameId) (gs : List Group) → AreGrouped bs ns gs → (n : NameId) → list_any (same_id n) ns ≡ false → split.of_name ids n bs ≡ []
none_named bs ns gs h n none = filter_none (λ c. same_id n c.bound) bs (λ c d. by c d (by_cases (same_id n c.bound)))
  where
    by : (c : Ours) → Contains bs c → (same_id n c.bound ≡ true) ⊎ (same_id n c.bound ≡ false) → same_id n c.bound ≡ false
    by c d (inr f) = f
    by c d (inl t) = absurd (let l : list_any (same_id n) ns ≡ true = subst (λ m. list_any (same_id m) ns ≡ true) (sym (id_is n c.bound t)) (h.all c d) in let z : ⊥ = cc in z)

-- what stands below the length of a list
pub some_at : {X : Type 0} (xs : List X) (i : ℕ) → i < length xs → (x : X) × (slice_get xs i ≡ Some x)
some_at [] i l = absurd (omega (arith, l))
some_at (x ∷ xs) zero l = (x, refl)
some_at (x ∷ xs) (suc i) l = some_at xs i (omega (arith, l))

-- some name has two targets exactly where some group does
module _ (bs : List Ours) (ns : List NameId) (gs : List Group) (h : AreGrouped bs ns gs) where
  abbrev group_differs : Group → Bool
  group_differs g = split.has_two_targets ids g.items

  contained_at : {X : Type 0} (xs : List X) (x : X) → Contains xs x → (i : ℕ) × (i < length xs) × (slice_get xs i ≡ Some x)
  contained_at [] x (k, l, e) = absurd (omega (arith, l))
  contained_at (y ∷ xs) x (zero, l, e) = (0, omega arith, ap Some e)
  contained_at (y ∷ xs) x (suc k, l, e) = let (i, m, f) = contained_at xs x (k, omega (arith, l), e) in (suc i, omega (arith, m), f)

  found_name : (n : NameId) (ms : List NameId) → list_any (same_id n) ms ≡ true → Contains ms n
  found_name n [] t = absurd (let z : ⊥ = cc in z)
  found_name n (m ∷ ms) t = by (same_id n m) refl t (λ u. found_name n ms u)
    where
      by : (b : Bool) → same_id n m ≡ b → (b || list_any (same_id n) ms) ≡ true → (list_any (same_id n) ms ≡ true → Contains ms n) → Contains (m ∷ ms) n
      by true e u rest = (0, omega arith, sym (id_is n m e))
      by false e u rest = let (k, l, f) = rest u in (suc k, omega (arith, l), f)

  group_of : (b : Ours) → Contains bs b → (g : Group) × Contains gs g × (g.items ≡ split.of_name ids b.bound bs)
  group_of b c =
      let (k, l, named) = contained_at ns b.bound (found_name b.bound ns (h.all b c)) in
      let (g, held) = some_at gs k (omega (arith, l, h.long)) in
      (g, get_contained gs k g held, h.each k b.bound g named held)

  -- a group that differs is that of one of its binders
  binder_in : (g : Group) → Contains gs g → group_differs g ≡ true → (b : Ours) × Contains bs b × (g.items ≡ split.of_name ids b.bound bs)
  binder_in g c t =
      let (i, l, held) = contained_at gs g c in
      let (n, named) = some_at ns i (omega (arith, l, h.long)) in
      let is : g.items ≡ split.of_name ids n bs = h.each i n g named held in
      let (b, (d, e)) = first_of_name n bs (g.items) is t in
      (b, d, is ∙ ap (λ m. split.of_name ids m bs) (id_is n b.bound e))
    where
      first_of_name : (n : NameId) (cs : List Ours) (items : List Ours) → items ≡ split.of_name ids n cs → split.has_two_targets ids items ≡ true → (b : Ours) × (Contains cs b × (same_id n b.bound ≡ true))
      first_of_name n cs items e u = some_named n cs (subst (λ (l : List Ours). split.has_two_targets ids l ≡ true) e u)
        where
          some_named : (n : NameId) (cs : List Ours) → split.has_two_targets ids (split.of_name ids n cs) ≡ true → (b : Ours) × (Contains cs b × (same_id n b.bound ≡ true))
          some_named n cs u = from (filter_first (λ c. same_id n c.bound) cs) u
            where
              from : ((filter (λ c. same_id n c.bound) cs ≡ []) ⊎ ((b : Ours) × (Contains cs b × (same_id n b.bound ≡ true)))) → split.has_two_targets ids (split.of_name ids n cs) ≡ true → (b : Ours) × (Contains cs b × (same_id n b.bound ≡ true))
              from (inl none) v = absurd (let w : split.has_two_targets ids [] ≡ true = subst (λ (l : List Ours). split.has_two_targets ids l ≡ true) none v in let z : ⊥ = cc in z)
              from (inr x) v = x

  any_group : list_any group_differs gs ≡ split.has_split ids bs
  any_group = same_bool (list_any group_differs gs) (split.has_split ids bs) there back
    where
      there : list_any group_differs gs ≡ true → split.has_split ids bs ≡ true
      there t =
          let (g, c, u) = any_there group_differs gs t in
          let (b, d, is) = binder_in g c u in
          found_true (λ x. split.is_split ids bs x.bound) bs b d (subst (λ (l : List Ours). split.has_two_targets ids l ≡ true) is u)

      back : split.has_split ids bs ≡ true → list_any group_differs gs ≡ true
      back t =
          let (b, d, u) = any_there (λ x. split.is_split ids bs x.bound) bs t in
          let (g, c, is) = group_of b d in
          found_true group_differs gs g c (subst (λ (l : List Ours). split.has_two_targets ids l ≡ true) (sym is) u)

  -- ---- what is asked of the binders of each name

  abbrev facts_in : Group → Facts
  facts_in g = facts_of g.items

  mapped_get : (xs : List Group) (i : ℕ) (x : Group) (y : Facts) → slice_get xs i ≡ Some x → y ≡ get_or (map facts_in xs) i y → y ≡ facts_in x
  mapped_get [] i x y held e = absurd (let z : ⊥ = cc in z)
  mapped_get (z ∷ xs) zero x y held e = let same : z ≡ x = cc in e ∙ ap facts_in same
  mapped_get (z ∷ xs) (suc i) x y held e = mapped_get xs i x y held e

  facts_long : (xs : List Group) → length (map facts_in xs) ≡ length xs
  facts_long [] = refl
  facts_long (x ∷ xs) = ap suc (facts_long xs)

  module _ (fs : List Facts) (are : fs ≡ map facts_in gs) (n : NameId) (i : ℕ) (named : slice_get ns i ≡ Some n) where
    pub facts_below : i < length fs
    facts_below = let long : length fs ≡ length gs = ap length are ∙ facts_long gs in omega (arith, long, h.long, get_below ns i n named)

    pub facts_at : (y : Facts) → y ≡ get_or fs i y → y ≡ facts_of (split.of_name ids n bs)
    facts_at y e =
        let (g, held) = some_at gs i (omega (arith, h.long, get_below ns i n named)) in
        mapped_get gs i g y held (e ∙ ap (λ xs. get_or xs i y) are) ∙ ap facts_of (h.each i n g named held)

  any_facts : (xs : List Group) → list_any (λ f. f.is_split) (map facts_in xs) ≡ list_any group_differs xs
  any_facts [] = refl
  any_facts (x ∷ xs) = ap (λ b. group_differs x || b) (any_facts xs)

  pub any_fact : list_any (λ f. f.is_split) (map facts_in gs) ≡ split.has_split ids bs
  any_fact = any_facts gs ∙ any_group
