-- What names ask for in a module in which each name has one target.
use Rattle.std.proofs.Common.{◌≡◌, zero, suc, Bool, true, false, ◌||◌, Some, None, List, [], ◌∷◌, map, take, arith, refl, sym, subst, ap, ap₂, ◌∙◌}
use Rattle.std.specs.Prelude.{Contains, nat_lt, not, ◌&&◌, ◌==◌, if◌then◌else◌, slice_get}
use Rattle.std.specs.List.{filter, list_any}
use Rattle.std.proofs.lemmas.Bool.Decides.{Decides-eqb}
use Rattle.wesl_cond_choices.specs.declared.place.Place.{Place}
use Rattle.wesl_cond_choices.specs.declared.place.Place.TheVariants.{Always}
use Rattle.wesl_tree_base.specs.declared.ids.NameId.{NameId}
use Rattle.wesl_link_symbols.specs.declared.ids.PathId.{PathId}
use Rattle.wesl_link_symbols.specs.declared.symbols.Reference.{Reference}
use Rattle.wesl_link_targets.proofs.Passed.{and_false}
use Rattle.wesl_link_split.specs.Grouped.{ids, same_id, has_declaration, first_import, IsStart}
use Rattle.wesl_link_split.specs.SightView.{whole}
use Rattle.wesl_link_split.specs.Split as split
use Rattle.wesl_link_split.specs.Split.{Binder, Scope}
use Rattle.wesl_link_split.specs.declared.binders.Start.TheVariants as starts
use Rattle.wesl_link_split.proofs.Grouping.{id_is}
use Rattle.wesl_link_split.proofs.Targets.{none_false, not_any, positive}

abbrev Ours : Type 0
Ours = Binder PathId NameId

-- ---- lists

pub filter_all : {X : Type 0} (p : X → Bool) (xs : List X) → ((x : X) → p x ≡ true) → filter p xs ≡ xs
filter_all p [] h = refl
filter_all p (x ∷ xs) h = ap (λ b. if b then x ∷ filter p xs else filter p xs) (h x) ∙ ap (λ l. x ∷ l) (filter_all p xs h)

pub filter_in : {X : Type 0} (p : X → Bool) (xs : List X) (x : X) → Contains (filter p xs) x → Contains xs x × (p x ≡ true)
filter_in p [] x (k, l, e) = absurd (omega (arith, l))
filter_in {X} p (y ∷ xs) x c = by (p y) refl c (λ d. filter_in p xs x d)
  where
    later : Contains xs x × (p x ≡ true) → Contains (y ∷ xs) x × (p x ≡ true)
    later ((k, l, e), t) = ((suc k, omega (arith, l), e), t)

    first : p y ≡ true → Contains (y ∷ filter p xs) x → (Contains (filter p xs) x → Contains xs x × (p x ≡ true)) → Contains (y ∷ xs) x × (p x ≡ true)
    first t (zero, l, e) rest = ((0, omega arith, e), subst (λ z. p z ≡ true) e t)
    first t (suc k, l, e) rest = later (rest (k, omega (arith, l), e))

    by : (b : Bool) → p y ≡ b → Contains (if b then y ∷ filter p xs else filter p xs) x → (Contains (filter p xs) x → Contains xs x × (p x ≡ true)) → Contains (y ∷ xs) x × (p x ≡ true)
    by true t d rest = first t d rest
    by false f d rest = later (rest d)

found_there : {X : Type 0} (p : X → Bool) (xs : List X) → list_any p xs ≡ true → (x : X) × Contains xs x
found_there p [] h = absurd (let z : ⊥ = cc in z)
found_there p (x ∷ xs) h = (x, (0, omega arith, refl))

filter_some : {X : Type 0} (p : X → Bool) (xs : List X) → (filter p xs ≡ [] → list_any p xs ≡ false) × ((y : X) (ys : List X) → filter p xs ≡ y ∷ ys → list_any p xs ≡ true)
filter_some p [] = ((λ e. refl), (λ y ys e. absurd (let z : ⊥ = cc in z)))
filter_some {X} p (x ∷ xs) = by (p x) (filter_some p xs)
  where
    by : (b : Bool) → (filter p xs ≡ [] → list_any p xs ≡ false) × ((y : X) (ys : List X) → filter p xs ≡ y ∷ ys → list_any p xs ≡ true)
        → ((if b then x ∷ filter p xs else filter p xs) ≡ [] → (b || list_any p xs) ≡ false) × ((y : X) (ys : List X) → (if b then x ∷ filter p xs else filter p xs) ≡ y ∷ ys → (b || list_any p xs) ≡ true)
    by true h = ((λ e. absurd (let z : ⊥ = cc in z)), (λ y ys e. refl))
    by false h = h

-- ---- no name has two targets

module _ (s : Scope PathId NameId) (h : split.has_split ids s.binders ≡ false) (n : NameId) where
  unsplit : (m : NameId) → split.is_split ids s.binders m ≡ false
  unsplit m = by (split.is_split ids s.binders m) refl
    where
      by : (b : Bool) → split.is_split ids s.binders m ≡ b → split.is_split ids s.binders m ≡ false
      by false e = e
      by true e =
          let (b, c) = found_there _ (split.of_name ids m s.binders) e in
          let (d, t) = filter_in (λ x. same_id m x.bound) s.binders b c in
          let one : split.is_split ids s.binders b.bound ≡ false = not_any (λ x. split.is_split ids s.binders x.bound) s.binders h b d in
          ap (split.is_split ids s.binders) (id_is m b.bound t) ∙ one

  place_is_always : (m : NameId) (p : Place) → split.place_at ids s m p ≡ Always
  place_is_always m p = ap (λ b. if b then p else Always) (unsplit m)

  own_unsplit : (p : PathId) (m : NameId) → split.is_own_split ids s p m ≡ false
  own_unsplit p m = ap (λ b. (p.0 == s.own.0) && b) (unsplit m) ∙ and_false (p.0 == s.own.0)

  abbrev named : List Ours
  named = split.of_name ids n s.binders

  all_seen : (here : Place) → split.seen ids s n here ≡ named
  all_seen here = filter_all (λ b. split.sees ids s here (split.place_at ids s n b.stands)) named (λ b. ap (split.sees ids s here) (place_is_always n b.stands))

  from_always : (b : Ours) → split.from_of ids s b ≡ Always
  from_always b = ap (λ x. if x then (split.asker_of ids s b).stands else Always) (own_unsplit b.path b.item)

  order_two : (b : Ours) → split.order_of ids (split.finding ids s b) ≡ 2
  order_two b = ap (λ x. split.order_of ids (if x then split.found_of ids s b (split.seen ids s b.item b.stands) else split.one b.path b.item [])) (own_unsplit b.path b.item)

  all_lowest : (bs : List Ours) → split.lowest ids s bs ≡ bs
  all_lowest bs =
      filter_all (λ b. not (list_any (λ c. nat_lt (split.order_of ids (split.finding ids s c)) (split.order_of ids (split.finding ids s b))) bs)) bs
      (λ b. ap not (none_false (λ c. nat_lt (split.order_of ids (split.finding ids s c)) (split.order_of ids (split.finding ids s b))) bs (λ c d. ap₂ nat_lt (order_two c) (order_two b))))

  abbrev plain_aim : Ours → Reference PathId NameId
  plain_aim b = record { path = b.path; name = b.item; from = Always }

  aims_plain : (bs : List Ours) → map (split.aim_of ids s) bs ≡ map plain_aim bs
  aims_plain [] = refl
  aims_plain (b ∷ bs) = ap₂ (λ (r : Reference PathId NameId) rs. r ∷ rs) (ap (λ p. record { path = b.path; name = b.item; from = p }) (from_always b)) (aims_plain bs)

  under_always : (here : Place) → split.under ids s n here s.own ≡ record { path = s.own; name = n; from = Always }
  under_always here = ap (λ x. record { path = s.own; name = n; from = if x then here else Always }) (own_unsplit s.own n)

  pub aimed_whole : (here : Place) → split.aimed_plain ids s n here ≡ whole s n
  aimed_whole here = ap (λ bs. split.aimed_of ids s n here (filter (λ b. b.declares) bs) bs) (all_seen here) ∙ by (filter (λ b. b.declares) named) refl
    where
      by : (ds : List Ours) → filter (λ b. b.declares) named ≡ ds → split.aimed_of ids s n here ds named ≡ whole s n
      by [] e =
          ap (map (split.aim_of ids s)) (all_lowest named)
          ∙ (aims_plain named ∙ ap (λ x. if x then record { path = s.own; name = n; from = Always } ∷ [] else map plain_aim named) (sym ((filter_some (λ b. b.declares) named).0 e)))
      by (d ∷ ds) e =
          ap (λ (r : Reference PathId NameId). r ∷ []) (under_always here)
          ∙ ap (λ x. if x then record { path = s.own; name = n; from = Always } ∷ [] else map plain_aim named) (sym ((filter_some (λ b. b.declares) named).1 d ds e))

  -- what it leads to is one thing
  one_target : (b c : Ours) → Contains named b → Contains named c → split.same_target ids b c ≡ true
  one_target b c i j =
      positive (split.same_target ids b c)
      (not_any (λ d. not (split.same_target ids b d)) named (not_any (λ x. list_any (λ d. not (split.same_target ids x d)) named) named (unsplit n) b i) c j)

  mapped_from : (bs : List Ours) (r : Reference PathId NameId) → Contains (map plain_aim bs) r → (b : Ours) × Contains bs b × (plain_aim b ≡ r)
  mapped_from [] r (k, l, e) = absurd (omega (arith, l))
  mapped_from (b ∷ bs) r (zero, l, e) = (b, (0, omega arith, refl), e)
  mapped_from (b ∷ bs) r (suc k, l, e) = let (c, (j, m, f), q) = mapped_from bs r (k, omega (arith, l), e) in (c, (suc j, omega (arith, m), f), q)

  and_true : (a : Bool) → a ≡ true → (a && true) ≡ true
  and_true a e = ap (λ x. x && true) e

  one_aim : (x y : Reference PathId NameId) → Contains (map plain_aim named) x → Contains (map plain_aim named) y → split.same_reference ids x y ≡ true
  one_aim x y i j =
      let (b, held, e) = mapped_from named x i in
      let (c, kept, f) = mapped_from named y j in
      ap₂ (split.same_reference ids) (sym e) (sym f) ∙ and_true (split.same_target ids b c) (one_target b c held kept)

  one_own : split.same_reference ids (record { path = s.own; name = n; from = Always }) (record { path = s.own; name = n; from = Always }) ≡ true
  one_own = and_true ((s.own.0 == s.own.0) && (n.0 == n.0)) (ap₂ (λ x y. x && y) ((Decides-eqb s.own.0 s.own.0).1 refl) ((Decides-eqb n.0 n.0).1 refl))

  abbrev differ : List (Reference PathId NameId) → Bool
  differ rs = list_any (λ x. list_any (λ y. not (split.same_reference ids x y)) rs) rs

  whole_alike : differ (whole s n) ≡ false
  whole_alike = by (has_declaration named)
    where
      by : (b : Bool) → differ (if b then record { path = s.own; name = n; from = Always } ∷ [] else map plain_aim named) ≡ false
      by true = ap (λ x. (not x || false) || false) one_own
      by false = none_false (λ x. list_any (λ y. not (split.same_reference ids x y)) (map plain_aim named)) (map plain_aim named)
          (λ x i. none_false (λ y. not (split.same_reference ids x y)) (map plain_aim named) (λ y j. ap not (one_aim x y i j)))

  pub never_unclear : (here : Place) → split.is_unclear_plain ids s n here ≡ false
  never_unclear here = ap₂ (λ x y. x || y) (ap (split.has_two_targets ids) (all_seen here) ∙ unsplit n) (ap differ (aimed_whole here) ∙ whole_alike)

-- ---- what a name leads to, by whether a declaration of it is seen

module _ (s : Scope PathId NameId) (n : NameId) (here : Place) (bs : List Ours) where
  pub aimed_declared : has_declaration bs ≡ true → split.aimed_of ids s n here (filter (λ b. b.declares) bs) bs ≡ split.under ids s n here s.own ∷ []
  aimed_declared h = by (filter (λ b. b.declares) bs) refl
    where
      by : (ds : List Ours) → filter (λ b. b.declares) bs ≡ ds → split.aimed_of ids s n here ds bs ≡ split.under ids s n here s.own ∷ []
      by [] e = absurd (let f : has_declaration bs ≡ false = (filter_some (λ b. b.declares) bs).0 e in let z : ⊥ = cc in z)
      by (d ∷ ds) e = refl

  pub aimed_imported : has_declaration bs ≡ false → split.aimed_of ids s n here (filter (λ b. b.declares) bs) bs ≡ map (split.aim_of ids s) (split.lowest ids s bs)
  aimed_imported h = by (filter (λ b. b.declares) bs) refl
    where
      by : (ds : List Ours) → filter (λ b. b.declares) bs ≡ ds → split.aimed_of ids s n here ds bs ≡ map (split.aim_of ids s) (split.lowest ids s bs)
      by [] e = refl
      by (d ∷ ds) e = absurd (let t : has_declaration bs ≡ true = (filter_some (λ b. b.declares) bs).1 d ds e in let z : ⊥ = cc in z)

-- ---- the imports of a name with one target, and with what a path begins

module _ (s : Scope PathId NameId) (n : NameId) (one : split.is_split ids s.binders n ≡ false) (here : Place) where
  abbrev is_import : Ours → Bool
  is_import b = not b.declares

  pub seen_anywhere : split.seen ids s n here ≡ split.of_name ids n s.binders
  seen_anywhere =
      filter_all (λ b. split.sees ids s here (split.place_at ids s n b.stands)) (split.of_name ids n s.binders)
      (λ b. ap (λ x. split.sees ids s here (if x then b.stands else Always)) one)

  imports_anywhere : split.seen_imports ids s n here ≡ filter is_import (split.of_name ids n s.binders)
  imports_anywhere = ap (filter is_import) seen_anywhere

  -- some of them have no more targets than all
  imports_alike : split.has_two_targets ids (split.seen_imports ids s n here) ≡ false
  imports_alike =
      ap (split.has_two_targets ids) imports_anywhere
      ∙ none_false (λ b. list_any (λ c. not (split.same_target ids b c)) (filter is_import (split.of_name ids n s.binders))) (filter is_import (split.of_name ids n s.binders))
      (λ b i. none_false (λ c. not (split.same_target ids b c)) (filter is_import (split.of_name ids n s.binders)) (λ c j. alike b c (filter_in is_import (split.of_name ids n s.binders) b i).0 (filter_in is_import (split.of_name ids n s.binders) c j).0))
    where
      alike : (b c : Ours) → Contains (split.of_name ids n s.binders) b → Contains (split.of_name ids n s.binders) c → not (split.same_target ids b c) ≡ false
      alike b c i j =
          not_any (λ d. not (split.same_target ids b d)) (split.of_name ids n s.binders)
          (not_any (λ x. list_any (λ d. not (split.same_target ids x d)) (split.of_name ids n s.binders)) (split.of_name ids n s.binders) one b i) c j

  pub start_one : (b : Ours) → Some b ≡ first_import (split.of_name ids n s.binders) → IsStart (starts.One b) (split.seen_imports ids s n here)
  start_one b e = (imports_alike, ap (take 1) imports_anywhere ∙ by (filter is_import (split.of_name ids n s.binders)) e)
    where
      by : (xs : List Ours) → Some b ≡ slice_get xs 0 → take 1 xs ≡ b ∷ []
      by [] f = absurd (let z : ⊥ = cc in z)
      by (x ∷ xs) f = let same : x ≡ b = cc in ap (λ y. y ∷ []) same

  pub start_none : None ≡ first_import (split.of_name ids n s.binders) → IsStart starts.Nothing (split.seen_imports ids s n here)
  start_none e = imports_anywhere ∙ by (filter is_import (split.of_name ids n s.binders)) e
    where
      by : (xs : List Ours) → None ≡ slice_get xs 0 → xs ≡ []
      by [] f = refl
      by (x ∷ xs) f = absurd (let z : ⊥ = cc in z)
