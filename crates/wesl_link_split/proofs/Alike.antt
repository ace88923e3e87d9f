-- What names ask for in a module is the same by numbers and by texts: for paths and names under tests that agree.
use Rattle.std.proofs.Common.{◌≡◌, Bool, true, false, List, [], ◌∷◌, map, take, refl, subst, ap, ap₂, ◌∙◌}
use Rattle.std.specs.Prelude.{nat_lt, not, ◌&&◌, ◌||◌, if◌then◌else◌}
use Rattle.std.specs.List.{filter, list_any}
use Rattle.wesl_cond_choices.specs.declared.place.Place.{Place}
use Rattle.wesl_cond_choices.specs.declared.place.Place.TheVariants.{Always}
use Rattle.wesl_cond_choices.specs.Places.{is_always, same_place}
use Rattle.wesl_link_symbols.specs.declared.symbols.Import.{Import}
use Rattle.wesl_link_symbols.specs.declared.symbols.Reference.{Reference}
use Rattle.wesl_link_split.specs.Numbering.{AreRelated, SameImport, SameReference, SameBinder, SameScope}
use Rattle.wesl_link_split.specs.Split as split
use Rattle.wesl_link_split.specs.Split.{Binder, Scope, Equality, Finding, nothing, several, one, same_sight}

-- ---- related lists

module _ {X Y : Type 0} (T : X → Y → Type 0) where
  pub any_alike : (p : X → Bool) (q : Y → Bool) → ((x : X) (y : Y) → T x y → p x ≡ q y) → (xs : List X) (ys : List Y) → AreRelated T xs ys → list_any p xs ≡ list_any q ys
  any_alike p q e [] [] h = refl
  any_alike p q e (x ∷ xs) (y ∷ ys) h = ap₂ (λ a b. a || b) (e x y h.0) (any_alike p q e xs ys h.1)
  any_alike p q e [] (y ∷ ys) h = absurd h
  any_alike p q e (x ∷ xs) [] h = absurd h

  pub filter_alike : (p : X → Bool) (q : Y → Bool) → ((x : X) (y : Y) → T x y → p x ≡ q y) → (xs : List X) (ys : List Y) → AreRelated T xs ys → AreRelated T (filter p xs) (filter q ys)
  filter_alike p q e [] [] h = tt
  filter_alike p q e (x ∷ xs) (y ∷ ys) h = by (p x) (q y) (e x y h.0) (filter_alike p q e xs ys h.1)
    where
      by : (a b : Bool) → a ≡ b → AreRelated T (filter p xs) (filter q ys) → AreRelated T (if a then x ∷ filter p xs else filter p xs) (if b then y ∷ filter q ys else filter q ys)
      by true true f k = (h.0, k)
      by false false f k = k
      by true false f k = absurd (let z : ⊥ = cc in z)
      by false true f k = absurd (let z : ⊥ = cc in z)
  filter_alike p q e [] (y ∷ ys) h = absurd h
  filter_alike p q e (x ∷ xs) [] h = absurd h

  pub map_equal : {Z : Type 0} (f : X → Z) (g : Y → Z) → ((x : X) (y : Y) → T x y → f x ≡ g y) → (xs : List X) (ys : List Y) → AreRelated T xs ys → map f xs ≡ map g ys
  map_equal f g e [] [] h = refl
  map_equal f g e (x ∷ xs) (y ∷ ys) h = ap₂ (λ z zs. z ∷ zs) (e x y h.0) (map_equal f g e xs ys h.1)
  map_equal f g e [] (y ∷ ys) h = absurd h
  map_equal f g e (x ∷ xs) [] h = absurd h

  pub map_alike : {U V : Type 0} (W : U → V → Type 0) (f : X → U) (g : Y → V) → ((x : X) (y : Y) → T x y → W (f x) (g y)) → (xs : List X) (ys : List Y) → AreRelated T xs ys → AreRelated W (map f xs) (map g ys)
  map_alike W f g e [] [] h = tt
  map_alike W f g e (x ∷ xs) (y ∷ ys) h = (e x y h.0, map_alike W f g e xs ys h.1)
  map_alike W f g e [] (y ∷ ys) h = absurd h
  map_alike W f g e (x ∷ xs) [] h = absurd h

  -- the first of each, if there is one
  pub first_alike : (xs : List X) (ys : List Y) → AreRelated T xs ys → AreRelated T (take 1 xs) (take 1 ys)
  first_alike [] [] h = tt
  first_alike (x ∷ xs) (y ∷ ys) h = (h.0, tt)
  first_alike [] (y ∷ ys) h = absurd h
  first_alike (x ∷ xs) [] h = absurd h

if_equal : {X : Type 0} (a b : Bool) (x y u v : X) → a ≡ b → x ≡ u → y ≡ v → (if a then x else y) ≡ (if b then u else v)
if_equal true true x y u v e f g = f
if_equal false false x y u v e f g = g
if_equal true false x y u v e f g = absurd (let z : ⊥ = cc in z)
if_equal false true x y u v e f g = absurd (let z : ⊥ = cc in z)

if_alike : {X Y : Type 0} (T : X → Y → Type 0) (a b : Bool) (x y : X) (u v : Y) → a ≡ b → T x u → T y v → T (if a then x else y) (if b then u else v)
if_alike T true true x y u v e f g = f
if_alike T false false x y u v e f g = g
if_alike T true false x y u v e f g = absurd (let z : ⊥ = cc in z)
if_alike T false true x y u v e f g = absurd (let z : ⊥ = cc in z)

module _ {P N Q M : Type 0} (R : P → Q → Type 0) (S : N → M → Type 0) (a : Equality P N) (b : Equality Q M)
    (paths : (p q : P) (x y : Q) → R p x → R q y → a.path p q ≡ b.path x y) (names : (m n : N) (x y : M) → S m x → S n y → a.name m n ≡ b.name x y) where
  abbrev Same : Binder P N → Binder Q M → Type 0
  Same c d = SameBinder R S c d

  abbrev pub AreSame : List (Binder P N) → List (Binder Q M) → Type 0
  AreSame cs ds = AreRelated Same cs ds

  target_same : (c e : Binder P N) (d f : Binder Q M) → Same c d → Same e f → split.same_target a c e ≡ split.same_target b d f
  target_same c e d f h k = ap₂ (λ x y. x && y) (paths c.path e.path d.path f.path h.path k.path) (names c.item e.item d.item f.item h.item k.item)

  pub of_name_same : (n : N) (x : M) → S n x → (cs : List (Binder P N)) (ds : List (Binder Q M)) → AreSame cs ds → AreSame (split.of_name a n cs) (split.of_name b x ds)
  of_name_same n x at cs ds h = filter_alike Same (λ c. a.name n c.bound) (λ d. b.name x d.bound) (λ c d k. names n c.bound x d.bound at k.bound) cs ds h

  pub two_same : (cs : List (Binder P N)) (ds : List (Binder Q M)) → AreSame cs ds → split.has_two_targets a cs ≡ split.has_two_targets b ds
  two_same cs ds h =
      any_alike Same (λ c. list_any (λ e. not (split.same_target a c e)) cs) (λ d. list_any (λ f. not (split.same_target b d f)) ds)
      (λ c d k. any_alike Same (λ e. not (split.same_target a c e)) (λ f. not (split.same_target b d f)) (λ e f l. ap not (target_same c e d f k l)) cs ds h) cs ds h

  split_same : (cs : List (Binder P N)) (ds : List (Binder Q M)) → AreSame cs ds → (n : N) (x : M) → S n x → split.is_split a cs n ≡ split.is_split b ds x
  split_same cs ds h n x at = two_same (split.of_name a n cs) (split.of_name b x ds) (of_name_same n x at cs ds h)

  pub has_split_same : (cs : List (Binder P N)) (ds : List (Binder Q M)) → AreSame cs ds → split.has_split a cs ≡ split.has_split b ds
  has_split_same cs ds h = any_alike Same (λ c. split.is_split a cs c.bound) (λ d. split.is_split b ds d.bound) (λ c d k. split_same cs ds h c.bound d.bound k.bound) cs ds h

  module _ (s : Scope P N) (t : Scope Q M) (same : SameScope R S s t) where
    pub place_at_same : (n : N) (x : M) → S n x → (p : Place) → split.place_at a s n p ≡ split.place_at b t x p
    place_at_same n x at p = ap (λ z. if z then p else Always) (split_same s.binders t.binders same.binders n x at)

    sees_same : (from p q : Place) → p ≡ q → split.sees a s from p ≡ split.sees b t from q
    sees_same from p q e = ap (λ z. is_always p || z) (same.together from p) ∙ ap (split.sees b t from) e

    sees_binder : (n : N) (x : M) → S n x → (from : Place) (c : Binder P N) (d : Binder Q M) → Same c d → split.sees a s from (split.place_at a s n c.stands) ≡ split.sees b t from (split.place_at b t x d.stands)
    sees_binder n x at from c d h = sees_same from (split.place_at a s n c.stands) (split.place_at b t x d.stands) (place_at_same n x at c.stands ∙ ap (split.place_at b t x) h.stands)

    pub seen_same : (n : N) (x : M) → S n x → (from : Place) → AreSame (split.seen a s n from) (split.seen b t x from)
    seen_same n x at from =
        filter_alike Same (λ c. split.sees a s from (split.place_at a s n c.stands)) (λ d. split.sees b t from (split.place_at b t x d.stands)) (sees_binder n x at from)
        (split.of_name a n s.binders) (split.of_name b x t.binders) (of_name_same n x at s.binders t.binders same.binders)

    sight_same : (n : N) (x : M) → S n x → (from : Place) → split.sight a s n from ≡ split.sight b t x from
    sight_same n x at from =
        map_equal Same (λ c. split.sees a s from (split.place_at a s n c.stands)) (λ d. split.sees b t from (split.place_at b t x d.stands)) (sees_binder n x at from)
        (split.of_name a n s.binders) (split.of_name b x t.binders) (of_name_same n x at s.binders t.binders same.binders)

    own_split_same : (p : P) (q : Q) → R p q → (n : N) (x : M) → S n x → split.is_own_split a s p n ≡ split.is_own_split b t q x
    own_split_same p q r n x at = ap₂ (λ y z. y && z) (paths p s.own q t.own r same.own) (split_same s.binders t.binders same.binders n x at)

    pub asked_at_same : (p : P) (q : Q) → R p q → (n : N) (x : M) → S n x → (here : Place) → split.asked_at a s p n here ≡ split.asked_at b t q x here
    asked_at_same p q r n x at here = ap (λ z. if z then here else Always) (own_split_same p q r n x at)

    -- ---- what an import finds

    abbrev SameFinding : Finding P N → Finding Q M → Type 0
    SameFinding nothing nothing = Unit {0}
    SameFinding several several = Unit {0}
    SameFinding (one p n xs) (one q x ys) = R p q × S n x × (xs ≡ ys)
    SameFinding _ _ = ⊥

    order_same : (u : Finding P N) (v : Finding Q M) → SameFinding u v → split.order_of a u ≡ split.order_of b v
    order_same nothing nothing h = refl
    order_same several several h = refl
    order_same (one p n xs) (one q x ys) h = refl
    order_same nothing several h = absurd h
    order_same nothing (one q x ys) h = absurd h
    order_same several nothing h = absurd h
    order_same several (one q x ys) h = absurd h
    order_same (one p n xs) nothing h = absurd h
    order_same (one p n xs) several h = absurd h

    finds_same : (u w : Finding P N) (v z : Finding Q M) → SameFinding u v → SameFinding w z → split.same_finding a u w ≡ split.same_finding b v z
    finds_same nothing nothing nothing nothing h k = refl
    finds_same nothing several nothing several h k = refl
    finds_same nothing (one p n xs) nothing (one q x ys) h k = refl
    finds_same several nothing several nothing h k = refl
    finds_same several several several several h k = refl
    finds_same several (one p n xs) several (one q x ys) h k = refl
    finds_same (one p n xs) nothing (one q x ys) nothing h k = refl
    finds_same (one p n xs) several (one q x ys) several h k = refl
    finds_same (one p n xs) (one p' n' xs') (one q x ys) (one q' x' ys') h k =
        ap₂ (λ y z. y && z) (ap₂ (λ y z. y && z) (paths p p' q q' h.0 k.0) (names n n' x x' h.1 k.1)) (ap₂ same_sight h.2 k.2)
    finds_same nothing w several z h k = absurd h
    finds_same nothing w (one q x ys) z h k = absurd h
    finds_same several w nothing z h k = absurd h
    finds_same several w (one q x ys) z h k = absurd h
    finds_same (one p n xs) w nothing z h k = absurd h
    finds_same (one p n xs) w several z h k = absurd h
    finds_same nothing nothing nothing several h k = absurd k
    finds_same nothing nothing nothing (one q x ys) h k = absurd k
    finds_same nothing several nothing nothing h k = absurd k
    finds_same nothing several nothing (one q x ys) h k = absurd k
    finds_same nothing (one p n xs) nothing nothing h k = absurd k
    finds_same nothing (one p n xs) nothing several h k = absurd k
    finds_same several nothing several several h k = absurd k
    finds_same several nothing several (one q x ys) h k = absurd k
    finds_same several several several nothing h k = absurd k
    finds_same several several several (one q x ys) h k = absurd k
    finds_same several (one p n xs) several nothing h k = absurd k
    finds_same several (one p n xs) several several h k = absurd k
    finds_same (one p n xs) nothing (one q x ys) several h k = absurd k
    finds_same (one p n xs) nothing (one q x ys) (one q' x' ys') h k = absurd k
    finds_same (one p n xs) several (one q x ys) nothing h k = absurd k
    finds_same (one p n xs) several (one q x ys) (one q' x' ys') h k = absurd k
    finds_same (one p n xs) (one p' n' xs') (one q x ys) nothing h k = absurd k
    finds_same (one p n xs) (one p' n' xs') (one q x ys) several h k = absurd k

    -- which binders of its target an import sees, where those lead on that `c` and `d` are among
    sight_if : (e : Binder P N) (f : Binder Q M) → Same e f → (c : Binder P N) (d : Binder Q M) → Same c d
        → (if split.leads_on a s c then split.sight a s e.item e.stands else []) ≡ (if split.leads_on b t d then split.sight b t f.item f.stands else [])
    sight_if e f k c d h =
        if_equal (split.leads_on a s c) (split.leads_on b t d) (split.sight a s e.item e.stands) [] (split.sight b t f.item f.stands) []
        (ap₂ (λ x y. not x && y) h.declares (own_split_same c.path d.path h.path c.item d.item h.item)) (sight_same e.item f.item k.item e.stands ∙ ap (split.sight b t f.item) k.stands) refl

    found_of_same : (e : Binder P N) (f : Binder Q M) → Same e f → (cs : List (Binder P N)) (ds : List (Binder Q M)) → AreSame cs ds → SameFinding (split.found_of a s e cs) (split.found_of b t f ds)
    found_of_same e f k [] [] h = tt
    found_of_same e f k (c ∷ cs) (d ∷ ds) h =
        if_alike SameFinding (split.has_two_targets a (c ∷ cs)) (split.has_two_targets b (d ∷ ds)) several (one c.path c.item (if split.leads_on a s c then split.sight a s e.item e.stands else []))
        several (one d.path d.item (if split.leads_on b t d then split.sight b t f.item f.stands else []))
        (two_same (c ∷ cs) (d ∷ ds) h) tt (h.0.path, h.0.item, sight_if e f k c d h.0)
    found_of_same e f k [] (d ∷ ds) h = absurd h
    found_of_same e f k (c ∷ cs) [] h = absurd h

    finding_same : (c : Binder P N) (d : Binder Q M) → Same c d → SameFinding (split.finding a s c) (split.finding b t d)
    finding_same c d h =
        if_alike SameFinding (split.is_own_split a s c.path c.item) (split.is_own_split b t d.path d.item) (split.found_of a s c (split.seen a s c.item c.stands)) (one c.path c.item [])
        (split.found_of b t d (split.seen b t d.item d.stands)) (one d.path d.item [])
        (own_split_same c.path d.path h.path c.item d.item h.item)
        (found_of_same c d h (split.seen a s c.item c.stands) (split.seen b t d.item d.stands) (seen_from c.stands d.stands h.stands))
        (h.path, h.item, refl)
      where
        seen_from : (x y : Place) → x ≡ y → AreSame (split.seen a s c.item x) (split.seen b t d.item y)
        seen_from x y e = subst (λ z. AreSame (split.seen a s c.item x) (split.seen b t d.item z)) e (seen_same c.item d.item h.item x)

    pub order_is : (c : Binder P N) (d : Binder Q M) → Same c d → split.order_of a (split.finding a s c) ≡ split.order_of b (split.finding b t d)
    order_is c d h = order_same (split.finding a s c) (split.finding b t d) (finding_same c d h)

    first_same : (c : Binder P N) (d : Binder Q M) (cs : List (Binder P N)) (ds : List (Binder Q M)) → Same c d → AreSame cs ds → Same (split.first_or a s c cs) (split.first_or b t d ds)
    first_same c d [] [] h k = h
    first_same c d (e ∷ cs) (f ∷ ds) h k = k.0
    first_same c d [] (f ∷ ds) h k = absurd k
    first_same c d (e ∷ cs) [] h k = absurd k

    alike_test : (c e : Binder P N) (d f : Binder Q M) → Same c d → Same e f
        → (not e.declares && (split.same_target a c e && split.same_finding a (split.finding a s c) (split.finding a s e))) ≡ (not f.declares && (split.same_target b d f && split.same_finding b (split.finding b t d) (split.finding b t f)))
    alike_test c e d f h k =
        ap₂ (λ x y. not x && y) k.declares
        (ap₂ (λ x y. x && y) (target_same c e d f h k) (finds_same (split.finding a s c) (split.finding a s e) (split.finding b t d) (split.finding b t f) (finding_same c d h) (finding_same e f k)))

    asker_same : (c : Binder P N) (d : Binder Q M) → Same c d → Same (split.asker_of a s c) (split.asker_of b t d)
    asker_same c d h =
        first_same c d _ _ h
        (filter_alike Same (λ e. not e.declares && (split.same_target a c e && split.same_finding a (split.finding a s c) (split.finding a s e)))
        (λ f. not f.declares && (split.same_target b d f && split.same_finding b (split.finding b t d) (split.finding b t f))) (λ e f k. alike_test c e d f h k)
        (split.of_name a c.bound s.binders) (split.of_name b d.bound t.binders) (of_name_same c.bound d.bound h.bound s.binders t.binders same.binders))

    pub from_same : (c : Binder P N) (d : Binder Q M) → Same c d → split.from_of a s c ≡ split.from_of b t d
    from_same c d h =
        if_equal (split.is_own_split a s c.path c.item) (split.is_own_split b t d.path d.item) (split.asker_of a s c).stands Always (split.asker_of b t d).stands Always
        (own_split_same c.path d.path h.path c.item d.item h.item) (asker_same c d h).stands refl

    lowest_same : (cs : List (Binder P N)) (ds : List (Binder Q M)) → AreSame cs ds → AreSame (split.lowest a s cs) (split.lowest b t ds)
    lowest_same cs ds h =
        filter_alike Same (λ c. not (list_any (λ e. nat_lt (split.order_of a (split.finding a s e)) (split.order_of a (split.finding a s c))) cs))
        (λ d. not (list_any (λ f. nat_lt (split.order_of b (split.finding b t f)) (split.order_of b (split.finding b t d))) ds))
        (λ c d k. ap not (any_alike Same (λ e. nat_lt (split.order_of a (split.finding a s e)) (split.order_of a (split.finding a s c)))
        (λ f. nat_lt (split.order_of b (split.finding b t f)) (split.order_of b (split.finding b t d))) (λ e f l. ap₂ nat_lt (order_is e f l) (order_is c d k)) cs ds h)) cs ds h

    -- ---- what a name asks for

    abbrev AreAsked : List (Reference P N) → List (Reference Q M) → Type 0
    AreAsked rs us = AreRelated (SameReference R S) rs us

    pub under_same : (n : N) (x : M) → S n x → (here : Place) (p : P) (q : Q) → R p q → SameReference R S (split.under a s n here p) (split.under b t x here q)
    under_same n x at here p q r = record { path = r; name = at; from = asked_at_same p q r n x at here }

    aim_same : (c : Binder P N) (d : Binder Q M) → Same c d → SameReference R S (split.aim_of a s c) (split.aim_of b t d)
    aim_same c d h = record { path = h.path; name = h.item; from = from_same c d h }

    aimed_of_same : (n : N) (x : M) → S n x → (here : Place) (cs es : List (Binder P N)) (ds fs : List (Binder Q M)) → AreSame cs ds → AreSame es fs → AreAsked (split.aimed_of a s n here cs es) (split.aimed_of b t x here ds fs)
    aimed_of_same n x at here (c ∷ cs) es (d ∷ ds) fs h k = (under_same n x at here s.own t.own same.own, tt)
    aimed_of_same n x at here [] es [] fs h k = map_alike Same (SameReference R S) (split.aim_of a s) (split.aim_of b t) aim_same (split.lowest a s es) (split.lowest b t fs) (lowest_same es fs k)
    aimed_of_same n x at here [] es (d ∷ ds) fs h k = absurd h
    aimed_of_same n x at here (c ∷ cs) es [] fs h k = absurd h

    aimed_same : (n : N) (x : M) → S n x → (here : Place) → AreAsked (split.aimed_plain a s n here) (split.aimed_plain b t x here)
    aimed_same n x at here =
        let seen : AreSame (split.seen a s n here) (split.seen b t x here) = seen_same n x at here in
        aimed_of_same n x at here (filter (λ c. c.declares) (split.seen a s n here)) (split.seen a s n here) (filter (λ d. d.declares) (split.seen b t x here)) (split.seen b t x here)
        (filter_alike Same (λ c. c.declares) (λ d. d.declares) (λ c d h. h.declares) (split.seen a s n here) (split.seen b t x here) seen) seen

    pub asked_same : (n : N) (x : M) → S n x → (here : Place) → AreAsked (split.asked_plain a s n here) (split.asked_plain b t x here)
    asked_same n x at here = first_alike (SameReference R S) (split.aimed_plain a s n here) (split.aimed_plain b t x here) (aimed_same n x at here)

    references_test : (r u : Reference P N) (v w : Reference Q M) → SameReference R S r v → SameReference R S u w → split.same_reference a r u ≡ split.same_reference b v w
    references_test r u v w h k =
        ap₂ (λ x y. x && y) (ap₂ (λ x y. x && y) (paths r.path u.path v.path w.path h.path k.path) (names r.name u.name v.name w.name h.name k.name)) (ap₂ same_place h.from k.from)

    pub unclear_same : (n : N) (x : M) → S n x → (here : Place) → split.is_unclear_plain a s n here ≡ split.is_unclear_plain b t x here
    unclear_same n x at here =
        let rs : List (Reference P N) = split.aimed_plain a s n here in
        let us : List (Reference Q M) = split.aimed_plain b t x here in
        let h : AreAsked rs us = aimed_same n x at here in
        ap₂ (λ y z. y || z) (two_same (split.seen a s n here) (split.seen b t x here) (seen_same n x at here))
        (any_alike (SameReference R S) (λ r. list_any (λ u. not (split.same_reference a r u)) rs) (λ v. list_any (λ w. not (split.same_reference b v w)) us)
        (λ r v k. any_alike (SameReference R S) (λ u. not (split.same_reference a r u)) (λ w. not (split.same_reference b v w)) (λ u w l. ap not (references_test r u v w k l)) rs us h) rs us h)

    pub imports_same : (n : N) (x : M) → S n x → (here : Place) → AreSame (split.seen_imports a s n here) (split.seen_imports b t x here)
    imports_same n x at here =
        filter_alike Same (λ c. not c.declares) (λ d. not d.declares) (λ c d h. ap not h.declares) (split.seen a s n here) (split.seen b t x here) (seen_same n x at here)

    -- ---- the imports of a table

    binder_same : (i : Import P N) (j : Import Q M) → SameImport R S i j → Same (split.binder_of i) (split.binder_of j)
    binder_same i j h = record { bound = h.bound; path = h.path; item = h.item; declares = refl; stands = h.place }

    pub settled_same : (i : Import P N) (j : Import Q M) → SameImport R S i j → SameImport R S (split.settled a s i) (split.settled b t j)
    settled_same i j h =
        let c : Binder P N = split.binder_of i in
        let d : Binder Q M = split.binder_of j in
        let k : Same c d = binder_same i j h in
        record { bound = h.bound; path = h.path; item = h.item; published = h.published; place = place_at_same i.bound j.bound h.bound i.place ∙ ap (split.place_at b t j.bound) h.place; from = from_same c d k; order = order_is c d k }
