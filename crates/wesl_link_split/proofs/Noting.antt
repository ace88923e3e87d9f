-- Imports that are noted by what they ask for, and that what they find is told by where sight changes.
use Rattle.std.proofs.Common.{◌≡◌, inl, inr, ℕ, zero, suc, nat_eq, Bool, true, false, ◌&&◌, Option, None, Some, List, [], ◌∷◌, ◌++◌, map, take, unwrap_or, refl, sym, subst, ap, ap₂, ◌∙◌}
use Rattle.std.specs.Prelude.{Contains, not, ◌==◌, if◌then◌else◌, slice_get}
use Rattle.std.specs.Cmp.Lexicographic.{pointwise}
use Rattle.std.specs.HashMap.{HashMap, get}
use Rattle.std.specs.List.{filter}
use Rattle.std.specs.Option.{option_map}
use Rattle.std.proofs.lemmas.Bool.Decides.{Decides-eqb}
use Rattle.std.proofs.lemmas.Slice.Eq.{slice_eq-Decides}
use Rattle.wesl_cond_choices.specs.declared.place.Place.{Place}
use Rattle.wesl_cond_choices.specs.declared.place.Place.TheVariants.{Always}
use Rattle.wesl_cond_covers.specs.Sight as sight
use Rattle.wesl_cond_covers.specs.Sight.{ChangesTell}
use Rattle.wesl_tree_base.specs.declared.ids.NameId.{NameId}
use Rattle.wesl_link_symbols.specs.Keyed.{Puts}
use Rattle.wesl_link_symbols.specs.declared.ids.PathId.{PathId}
use Rattle.wesl_link_targets.proofs.Passed.{and_false}
use Rattle.wesl_link_split.specs.Grouped.{ids, asks_for, places_of}
use Rattle.wesl_link_split.specs.Noted.{asks, same_question, AreAskers, HasAsker}
use Rattle.wesl_link_split.specs.SightView.{aim_in, AreAims}
use Rattle.wesl_link_split.specs.Split as split
use Rattle.wesl_link_split.specs.Split.{Binder, Finding as Found, Scope, same_sight}
use Rattle.wesl_link_split.specs.Told.{Told, nothing, several, one, changes_in, order_told, same_changes, same_told, told, told_of, told_view}
use Rattle.wesl_link_split.specs.contracts.askers.FindingPartialEq.TheImpl as equality
use Rattle.wesl_link_split.specs.declared.askers.Finding.{Finding}
use Rattle.wesl_link_split.specs.declared.askers.Finding.TheVariants as findings
use Rattle.wesl_link_split.specs.declared.askers.Question.{Question}
use Rattle.wesl_link_split.specs.declared.binders.Aim.{Aim}
use Rattle.wesl_link_split.proofs.Aims.{path_id_is}
use Rattle.wesl_link_split.proofs.Grouping.{id_is}
use Rattle.wesl_link_split.proofs.Orders.{filter_alike}
use Rattle.wesl_link_split.proofs.Targets.{both_true, same_bool, sight_eq, sight_itself}
use Rattle.wesl_link_split.proofs.Unsplit.{filter_in}

abbrev Ours : Type 0
Ours = Binder PathId NameId

-- ---- tests

drop_true : (x y : Bool) → ((x && true) && y) ≡ (x && y)
drop_true true y = refl
drop_true false y = refl

number_itself : (n : ℕ) → (n == n) ≡ true
number_itself n = (Decides-eqb n n).1 refl

pub numbers_are : (xs ys : List ℕ) → pointwise nat_eq xs ys ≡ true → xs ≡ ys
numbers_are xs ys h = (slice_eq-Decides Decides-eqb xs ys (pointwise nat_eq xs ys) refl).0 h

numbers_if : (xs ys : List ℕ) → xs ≡ ys → pointwise nat_eq xs ys ≡ true
numbers_if xs ys e = (slice_eq-Decides Decides-eqb xs ys (pointwise nat_eq xs ys) refl).1 e

changes_are : (x y : Option (List ℕ)) → same_changes x y ≡ true → x ≡ y
changes_are None None h = refl
changes_are (Some xs) (Some ys) h = ap Some (numbers_are xs ys h)
changes_are None (Some ys) h = absurd (let z : ⊥ = cc in z)
changes_are (Some xs) None h = absurd (let z : ⊥ = cc in z)

changes_itself : (x : Option (List ℕ)) → same_changes x x ≡ true
changes_itself None = refl
changes_itself (Some xs) = numbers_if xs xs refl

pub told_is : (x y : Told) → same_told x y ≡ true → x ≡ y
told_is nothing nothing h = refl
told_is several several h = refl
told_is (one p n x) (one q m y) h =
    let (pn, c) = both_true (p.0 == q.0 && n.0 == m.0) (same_changes x y) h in
    let (a, b) = both_true (p.0 == q.0) (n.0 == m.0) pn in
    ap (λ r. one r n x) (path_id_is p q a) ∙ (ap (λ k. one q k x) (id_is n m b) ∙ ap (one q m) (changes_are x y c))
told_is nothing several h = absurd (let z : ⊥ = cc in z)
told_is nothing (one q m y) h = absurd (let z : ⊥ = cc in z)
told_is several nothing h = absurd (let z : ⊥ = cc in z)
told_is several (one q m y) h = absurd (let z : ⊥ = cc in z)
told_is (one p n x) nothing h = absurd (let z : ⊥ = cc in z)
told_is (one p n x) several h = absurd (let z : ⊥ = cc in z)

pub told_itself : (x : Told) → same_told x x ≡ true
told_itself nothing = refl
told_itself several = refl
told_itself (one p n x) = ap₂ (λ a b. a && b) (ap₂ (λ a b. a && b) (number_itself p.0) (number_itself n.0)) (changes_itself x)

-- ---- questions

and_assoc : (a b c : Bool) → (a && (b && c)) ≡ ((a && b) && c)
and_assoc true b c = refl
and_assoc false b c = refl

abbrev same_finding : Finding → Finding → Bool
same_finding = (equality.ghosts).eq

finding_eq : (f g : Finding) → same_finding f g ≡ same_told (told_view f) (told_view g)
finding_eq findings.Nothing findings.Nothing = refl
finding_eq findings.Nothing findings.Several = refl
finding_eq findings.Nothing (findings.One q m y) = refl
finding_eq findings.Several findings.Nothing = refl
finding_eq findings.Several findings.Several = refl
finding_eq findings.Several (findings.One q m y) = refl
finding_eq (findings.One p n x) findings.Nothing = refl
finding_eq (findings.One p n x) findings.Several = refl
finding_eq (findings.One p n None) (findings.One q m None) = and_assoc (p.0 == q.0) (n.0 == m.0) true
finding_eq (findings.One p n None) (findings.One q m (Some w)) = and_assoc (p.0 == q.0) (n.0 == m.0) false
finding_eq (findings.One p n (Some v)) (findings.One q m None) = and_assoc (p.0 == q.0) (n.0 == m.0) false
finding_eq (findings.One p n (Some v)) (findings.One q m (Some w)) = and_assoc (p.0 == q.0) (n.0 == m.0) (pointwise nat_eq v.items w.items)

question_eq : (q r : Question) → same_question q r ≡ (q.path.0 == r.path.0 && q.item.0 == r.item.0 && same_told (told_view q.finding) (told_view r.finding))
question_eq q r =
    ap (λ z. q.path.0 == r.path.0 && (q.item.0 == r.item.0 && z)) (finding_eq q.finding r.finding)
    ∙ and_assoc (q.path.0 == r.path.0) (q.item.0 == r.item.0) (same_told (told_view q.finding) (told_view r.finding))

same_is : (q r : Question) → same_question q r ≡ true → (q.path ≡ r.path) × (q.item ≡ r.item) × (told_view q.finding ≡ told_view r.finding)
same_is q r h =
    let (pn, c) = both_true (q.path.0 == r.path.0 && q.item.0 == r.item.0) (same_told (told_view q.finding) (told_view r.finding)) (sym (question_eq q r) ∙ h) in
    let (a, b) = both_true (q.path.0 == r.path.0) (q.item.0 == r.item.0) pn in
    (path_id_is q.path r.path a, id_is q.item r.item b, told_is (told_view q.finding) (told_view r.finding) c)

all_same : (p q : PathId) (n m : NameId) (x y : Told) → p ≡ q → n ≡ m → x ≡ y → (p.0 == q.0 && n.0 == m.0 && same_told x y) ≡ true
all_same p q n m x y e f g =
    ap₂ (λ a b. a && b)
    (ap₂ (λ a b. a && b) (ap (λ r. p.0 == r.0) (sym e) ∙ number_itself p.0) (ap (λ k. n.0 == k.0) (sym f) ∙ number_itself n.0))
    (ap (same_told x) (sym g) ∙ told_itself x)

module _ (s : Scope PathId NameId) where
  asks_is : (q : Question) (c : Ours) → asks s q c ≡ true → (split.leads_on ids s c ≡ true) × (q.path ≡ c.path) × (q.item ≡ c.item) × (told_view q.finding ≡ told s c)
  asks_is q c h =
      let (l, rest) = both_true (split.leads_on ids s c) (q.path.0 == c.path.0 && q.item.0 == c.item.0 && same_told (told_view q.finding) (told s c)) h in
      let (pn, t) = both_true (q.path.0 == c.path.0 && q.item.0 == c.item.0) (same_told (told_view q.finding) (told s c)) rest in
      let (a, b) = both_true (q.path.0 == c.path.0) (q.item.0 == c.item.0) pn in
      (l, path_id_is q.path c.path a, id_is q.item c.item b, told_is (told_view q.finding) (told s c) t)

  asks_if : (q : Question) (c : Ours) → split.leads_on ids s c ≡ true → q.path ≡ c.path → q.item ≡ c.item → told_view q.finding ≡ told s c → asks s q c ≡ true
  asks_if q c l e f g = ap₂ (λ a b. a && b) l (all_same q.path c.path q.item c.item (told_view q.finding) (told s c) e f g)

-- ---- the first of some

abbrev or_else : {X : Type 0} → Option X → Option X → Option X
or_else None o = o
or_else (Some x) o = Some x

first_added : {X : Type 0} (p : X → Bool) (xs : List X) (y : X) → slice_get (filter p (xs ++ y ∷ [])) 0 ≡ or_else (slice_get (filter p xs) 0) (if p y then Some y else None)
first_added p [] y = by (p y)
  where
    by : (b : Bool) → slice_get (if b then y ∷ [] else []) 0 ≡ (if b then Some y else None)
    by true = refl
    by false = refl
first_added {X} p (x ∷ xs) y = by (p x) (first_added p xs y)
  where
    by : (b : Bool) → slice_get (filter p (xs ++ y ∷ [])) 0 ≡ or_else (slice_get (filter p xs) 0) (if p y then Some y else None)
        → slice_get (if b then x ∷ filter p (xs ++ y ∷ []) else filter p (xs ++ y ∷ [])) 0 ≡ or_else (slice_get (if b then x ∷ filter p xs else filter p xs) 0) (if p y then Some y else None)
    by true e = refl
    by false e = e

module _ (s : Scope PathId NameId) where
  -- where one of them is among the first, it is that of all
  first_at : (p : Ours → Bool) (xs : List Ours) (i : ℕ) (b : Ours) → slice_get xs i ≡ Some b → p b ≡ true → split.first_or ids s b (filter p (take i xs)) ≡ split.first_or ids s b (filter p xs)
  first_at p [] i b at t = absurd (let z : ⊥ = cc in z)
  first_at p (x ∷ xs) zero b at t =
      let same : x ≡ b = cc in
      sym (ap (λ y. split.first_or ids s b (if p y then y ∷ filter p xs else filter p xs)) same ∙ ap (λ y. split.first_or ids s b (if y then b ∷ filter p xs else filter p xs)) t)
  first_at p (x ∷ xs) (suc i) b at t = by (p x) (first_at p xs i b at t)
    where
      by : (y : Bool) → split.first_or ids s b (filter p (take i xs)) ≡ split.first_or ids s b (filter p xs)
          → split.first_or ids s b (if y then x ∷ filter p (take i xs) else filter p (take i xs)) ≡ split.first_or ids s b (if y then x ∷ filter p xs else filter p xs)
      by true e = refl
      by false e = e

  stands_of : (l : List Ours) (b : Ours) → unwrap_or (option_map (λ (c : Ours). c.stands) (slice_get l 0)) b.stands ≡ (split.first_or ids s b l).stands
  stands_of [] b = refl
  stands_of (c ∷ cs) b = refl

-- ---- what is told

order_same : (s : Scope PathId NameId) (b : Ours) → order_told (told s b) ≡ split.order_of ids (split.finding ids s b)
order_same s b = by (split.is_own_split ids s b.path b.item) (split.seen ids s b.item b.stands)
  where
    by_two : (c : Ours) (two : Bool) (x : Option (List ℕ)) (y : List Bool)
        → order_told (if two then several else one c.path c.item x) ≡ split.order_of ids (if two then split.several else split.one c.path c.item y)
    by_two c true x y = refl
    by_two c false x y = refl

    by_seen : (bs : List Ours) → order_told (told_of s b bs) ≡ split.order_of ids (split.found_of ids s b bs)
    by_seen [] = refl
    by_seen (c ∷ cs) = by_two c (split.has_two_targets ids (c ∷ cs)) (if split.leads_on ids s c then Some (changes_in s b.item b.stands) else None) (if split.leads_on ids s c then split.sight ids s b.item b.stands else [])

    by : (own : Bool) (bs : List Ours) → order_told (if own then told_of s b bs else one b.path b.item None) ≡ split.order_of ids (if own then split.found_of ids s b bs else split.one b.path b.item [])
    by true bs = by_seen bs
    by false bs = refl

module _ (tell : ChangesTell) (s : Scope PathId NameId) where
  map_places : (from : Place) (g : List Ours) → map (λ (b : Ours). split.sees ids s from b.stands) g ≡ map (sight.sees s.alive from) (places_of g)
  map_places from [] = refl
  map_places from (b ∷ g) = ap (λ (l : List Bool). split.sees ids s from b.stands ∷ l) (map_places from g)

  module _ (n : NameId) (of : split.is_split ids s.binders n ≡ true) where
    sight_is : (from : Place) → split.sight ids s n from ≡ map (sight.sees s.alive from) (places_of (split.of_name ids n s.binders))
    sight_is from =
        ap (λ (x : Bool). map (λ (b : Ours). split.sees ids s from (if x then b.stands else Always)) (split.of_name ids n s.binders)) of
        ∙ map_places from (split.of_name ids n s.binders)

    -- two places see the same where sight changes at the same indices
    sights_alike : (p q : Place) → same_sight (split.sight ids s n p) (split.sight ids s n q) ≡ pointwise nat_eq (changes_in s n p) (changes_in s n q)
    sights_alike p q =
        let (there, back) = tell s.alive p q (places_of (split.of_name ids n s.binders)) in
        same_bool (same_sight (split.sight ids s n p) (split.sight ids s n q)) (pointwise nat_eq (changes_in s n p) (changes_in s n q))
        (λ h. numbers_if (changes_in s n p) (changes_in s n q) (back (sym (sight_is p) ∙ (sight_eq (split.sight ids s n p) (split.sight ids s n q) h ∙ sight_is q))))
        (λ h. ap (same_sight (split.sight ids s n p)) (sym (sight_is p ∙ (there (numbers_are (changes_in s n p) (changes_in s n q) h) ∙ sym (sight_is q)))) ∙ sight_itself (split.sight ids s n p))

    -- a binder that is seen is one of its name
    some_sight : (from : Place) (c : Ours) (cs : List Ours) → c ∷ cs ≡ split.seen ids s n from → split.sight ids s n from ≡ [] → ⊥
    some_sight from c cs e none = by (split.of_name ids n s.binders) e none
      where
        by : (g : List Ours) → c ∷ cs ≡ filter (λ (b : Ours). split.sees ids s from (split.place_at ids s n b.stands)) g → map (λ (b : Ours). split.sees ids s from (split.place_at ids s n b.stands)) g ≡ [] → ⊥
        by [] f h = let z : ⊥ = cc in z
        by (b ∷ g) f h = let z : ⊥ = cc in z

    no_sight : (from : Place) (c : Ours) (cs : List Ours) → c ∷ cs ≡ split.seen ids s n from → (same_sight [] (split.sight ids s n from) ≡ false) × (same_sight (split.sight ids s n from) [] ≡ false)
    no_sight from c cs e = by (split.sight ids s n from) (some_sight from c cs e)
      where
        by : (l : List Bool) → (l ≡ [] → ⊥) → (same_sight [] l ≡ false) × (same_sight l [] ≡ false)
        by [] h = absurd (h refl)
        by (x ∷ l) h = (refl, refl)

    module _ (b d : Ours) (item_b : b.item ≡ n) (item_d : d.item ≡ n) where
      one_alike : (x y : Ours) (xs ys : List Ours) → x ∷ xs ≡ split.seen ids s n b.stands → y ∷ ys ≡ split.seen ids s n d.stands
          → same_sight (if split.leads_on ids s x then split.sight ids s n b.stands else []) (if split.leads_on ids s y then split.sight ids s n d.stands else [])
          ≡ same_changes (if split.leads_on ids s x then Some (changes_in s n b.stands) else None) (if split.leads_on ids s y then Some (changes_in s n d.stands) else None)
      one_alike x y xs ys e f = by (split.leads_on ids s x) (split.leads_on ids s y)
        where
          by : (l m : Bool) → same_sight (if l then split.sight ids s n b.stands else []) (if m then split.sight ids s n d.stands else [])
              ≡ same_changes (if l then Some (changes_in s n b.stands) else None) (if m then Some (changes_in s n d.stands) else None)
          by true true = sights_alike b.stands d.stands
          by true false = (no_sight b.stands x xs e).1
          by false true = (no_sight d.stands y ys f).0
          by false false = refl

      lists_alike : (xs ys : List Ours) → xs ≡ split.seen ids s n b.stands → ys ≡ split.seen ids s n d.stands
          → split.same_finding ids (split.found_of ids s b xs) (split.found_of ids s d ys) ≡ same_told (told_of s b xs) (told_of s d ys)
      lists_alike [] [] e f = refl
      lists_alike [] (y ∷ ys) e f = by (split.has_two_targets ids (y ∷ ys)) (if split.leads_on ids s y then split.sight ids s d.item d.stands else []) (if split.leads_on ids s y then Some (changes_in s d.item d.stands) else None)
        where
          by : (two : Bool) (l : List Bool) (m : Option (List ℕ)) → split.same_finding ids split.nothing (if two then split.several else split.one y.path y.item l) ≡ same_told nothing (if two then several else one y.path y.item m)
          by true l m = refl
          by false l m = refl
      lists_alike (x ∷ xs) [] e f = by (split.has_two_targets ids (x ∷ xs)) (if split.leads_on ids s x then split.sight ids s b.item b.stands else []) (if split.leads_on ids s x then Some (changes_in s b.item b.stands) else None)
        where
          by : (two : Bool) (l : List Bool) (m : Option (List ℕ)) → split.same_finding ids (if two then split.several else split.one x.path x.item l) split.nothing ≡ same_told (if two then several else one x.path x.item m) nothing
          by true l m = refl
          by false l m = refl
      lists_alike (x ∷ xs) (y ∷ ys) e f =
          by (split.has_two_targets ids (x ∷ xs)) (split.has_two_targets ids (y ∷ ys))
          (if split.leads_on ids s x then split.sight ids s b.item b.stands else []) (if split.leads_on ids s y then split.sight ids s d.item d.stands else [])
          (if split.leads_on ids s x then Some (changes_in s b.item b.stands) else None) (if split.leads_on ids s y then Some (changes_in s d.item d.stands) else None)
          (ap₂ (λ (i : NameId) (j : NameId). same_sight (if split.leads_on ids s x then split.sight ids s i b.stands else []) (if split.leads_on ids s y then split.sight ids s j d.stands else [])) item_b item_d
          ∙ (one_alike x y xs ys e f
          ∙ sym (ap₂ (λ (i : NameId) (j : NameId). same_changes (if split.leads_on ids s x then Some (changes_in s i b.stands) else None) (if split.leads_on ids s y then Some (changes_in s j d.stands) else None)) item_b item_d)))
        where
          by : (two more : Bool) (l k : List Bool) (m o : Option (List ℕ)) → same_sight l k ≡ same_changes m o
              → split.same_finding ids (if two then split.several else split.one x.path x.item l) (if more then split.several else split.one y.path y.item k)
              ≡ same_told (if two then several else one x.path x.item m) (if more then several else one y.path y.item o)
          by true true l k m o g = refl
          by true false l k m o g = refl
          by false true l k m o g = refl
          by false false l k m o g = ap (λ z. x.path.0 == y.path.0 && x.item.0 == y.item.0 && z) g

  -- findings of one target, a name of the module with several, are alike where they are told alike
  found_alike : (b d : Ours) → split.is_own_split ids s b.path b.item ≡ true → split.is_own_split ids s d.path d.item ≡ true → b.item ≡ d.item
      → split.same_finding ids (split.finding ids s b) (split.finding ids s d) ≡ same_told (told s b) (told s d)
  found_alike b d own other same =
      let of : split.is_split ids s.binders d.item ≡ true = (both_true (d.path.0 == s.own.0) (split.is_split ids s.binders d.item) other).1 in
      ap₂ (λ x y. split.same_finding ids (if x then split.found_of ids s b (split.seen ids s b.item b.stands) else split.one b.path b.item []) (if y then split.found_of ids s d (split.seen ids s d.item d.stands) else split.one d.path d.item [])) own other
      ∙ (lists_alike d.item of b d same refl (split.seen ids s b.item b.stands) (split.seen ids s d.item d.stands) (ap (λ n. split.seen ids s n b.stands) same) refl
      ∙ sym (ap₂ (λ x y. same_told (if x then told_of s b (split.seen ids s b.item b.stands) else one b.path b.item None) (if y then told_of s d (split.seen ids s d.item d.stands) else one d.path d.item None)) own other))

  -- what asks for an import asks its question
  module _ (b : Ours) (q : Question) (own : split.is_own_split ids s b.path b.item ≡ true) (path : q.path ≡ b.path) (item : q.item ≡ b.item) (found : told_view q.finding ≡ told s b) where
    asks_same : (c : Ours) → asks s q c ≡ asks_for b (split.finding ids s b) c (split.finding ids s c)
    asks_same c =
        ap (λ (p : PathId). split.leads_on ids s c && (p.0 == c.path.0 && q.item.0 == c.item.0 && same_told (told_view q.finding) (told s c))) path
        ∙ (ap (λ (n : NameId). split.leads_on ids s c && (b.path.0 == c.path.0 && n.0 == c.item.0 && same_told (told_view q.finding) (told s c))) item
        ∙ (ap (λ (x : Told). split.leads_on ids s c && (split.same_target ids b c && same_told x (told s c))) found
        ∙ by (split.same_target ids b c) refl))
      where
        by : (t : Bool) → split.same_target ids b c ≡ t → (split.leads_on ids s c && (t && same_told (told s b) (told s c))) ≡ (not c.declares && (t && split.same_finding ids (split.finding ids s b) (split.finding ids s c)))
        by false e = and_false (split.leads_on ids s c) ∙ sym (and_false (not c.declares))
        by true e =
            let (p, n) = both_true (b.path.0 == c.path.0) (b.item.0 == c.item.0) e in
            let i : b.item ≡ c.item = id_is b.item c.item n in
            let other : split.is_own_split ids s c.path c.item ≡ true = ap₂ (λ (x : PathId) (y : NameId). split.is_own_split ids s x y) (sym (path_id_is b.path c.path p)) (sym i) ∙ own in
            ap (λ x. (not c.declares && x) && same_told (told s b) (told s c)) other
            ∙ (drop_true (not c.declares) (same_told (told s b) (told s c)) ∙ ap (λ x. not c.declares && x) (sym (found_alike b c own other i)))

    -- where the first stands that asks for it
    pub asker_noted : {S : Type 0} (askers : HashMap Question Place S) (bs : List Ours) → AreAskers s bs askers → HasAsker s bs b → unwrap_or (get same_question askers q) b.stands ≡ (split.asker_of ids s b).stands
    asker_noted askers bs noted has =
        ap (λ (o : Option Place). unwrap_or o b.stands) (noted q)
        ∙ (stands_of s (filter (asks s q) bs) b
        ∙ (ap (λ (l : List Ours). (split.first_or ids s b l).stands) (filter_alike (asks s q) (λ c. asks_for b (split.finding ids s b) c (split.finding ids s c)) bs (λ c there. asks_same c))
        ∙ ap (λ (c : Ours). c.stands) has))

    -- so what it aims at
    pub aim_is : (from : Place) (order : ℕ) → from ≡ (split.asker_of ids s b).stands → order ≡ order_told (told_view q.finding)
        → record { reference = record { path = b.path; name = b.item; from = from }; order = order } ≡ aim_in s b
    aim_is from order e f =
        let ordered : order ≡ split.order_of ids (split.finding ids s b) = f ∙ (ap order_told found ∙ order_same s b) in
        let asked_from : from ≡ split.from_of ids s b = e ∙ sym (ap (λ x. if x then (split.asker_of ids s b).stands else Always) own) in
        ap₂ (λ (x : Place) (y : ℕ). record { reference = record { path = b.path; name = b.item; from = x }; order = y }) asked_from ordered

    -- one more is noted
    pub noted_more : {S : Type 0} (old new : HashMap Question Place S) (bs : List Ours) → split.leads_on ids s b ≡ true
        → ((r : Question) → get same_question new r ≡ (if same_question q r then Some (unwrap_or (get same_question old q) b.stands) else get same_question old r))
        → AreAskers s bs old → AreAskers s (bs ++ b ∷ []) new
    noted_more old new bs leads added noted r =
        added r ∙ (by (same_question q r) refl ∙ ap (option_map (λ (c : Ours). c.stands)) (sym (first_added (asks s r) bs b)))
      where
        stays : (o : Option Ours) → Some (unwrap_or (option_map (λ (c : Ours). c.stands) o) b.stands) ≡ option_map (λ (c : Ours). c.stands) (or_else o (Some b))
        stays None = refl
        stays (Some c) = refl

        alone : (o : Option Ours) → option_map (λ (c : Ours). c.stands) o ≡ option_map (λ (c : Ours). c.stands) (or_else o None)
        alone None = refl
        alone (Some c) = refl

        unasked : (x : Bool) → asks s r b ≡ x → same_question q r ≡ false → x ≡ false
        unasked false e f = refl
        unasked true e f =
            let (l, p, n, t) = asks_is s r b e in
            absurd (let g : same_question q r ≡ true = question_eq q r ∙ all_same q.path r.path q.item r.item (told_view q.finding) (told_view r.finding) (path ∙ sym p) (item ∙ sym n) (found ∙ sym t) in let z : ⊥ = cc in z)

        by : (x : Bool) → same_question q r ≡ x
            → (if x then Some (unwrap_or (get same_question old q) b.stands) else get same_question old r) ≡ option_map (λ (c : Ours). c.stands) (or_else (slice_get (filter (asks s r) bs) 0) (if asks s r b then Some b else None))
        by true e =
            let (p, n, t) = same_is q r e in
            let here : asks s r b ≡ true = asks_if s r b leads (sym p ∙ path) (sym n ∙ item) (sym t ∙ found) in
            let all : filter (asks s q) bs ≡ filter (asks s r) bs =
            ap (λ (u : PathId). filter (λ c. split.leads_on ids s c && (u.0 == c.path.0 && q.item.0 == c.item.0 && same_told (told_view q.finding) (told s c))) bs) p
            ∙ (ap (λ (u : NameId). filter (λ c. split.leads_on ids s c && (r.path.0 == c.path.0 && u.0 == c.item.0 && same_told (told_view q.finding) (told s c))) bs) n
            ∙ ap (λ (u : Told). filter (λ c. split.leads_on ids s c && (r.path.0 == c.path.0 && r.item.0 == c.item.0 && same_told u (told s c))) bs) t) in
            ap (λ (o : Option Place). Some (unwrap_or o b.stands)) (noted q)
            ∙ (ap (λ (l : List Ours). Some (unwrap_or (option_map (λ (c : Ours). c.stands) (slice_get l 0)) b.stands)) all
            ∙ (stays (slice_get (filter (asks s r) bs) 0) ∙ ap (λ x. option_map (λ (c : Ours). c.stands) (or_else (slice_get (filter (asks s r) bs) 0) (if x then Some b else None))) (sym here)))
        by false e =
            noted r ∙ (alone (slice_get (filter (asks s r) bs) 0)
            ∙ ap (λ x. option_map (λ (c : Ours). c.stands) (or_else (slice_get (filter (asks s r) bs) 0) (if x then Some b else None))) (sym (unasked (asks s r b) refl e)))

module _ (s : Scope PathId NameId) where
  -- a binder that asks nothing is passed
  pub noted_not : {S : Type 0} (askers : HashMap Question Place S) (bs : List Ours) (b : Ours) → split.leads_on ids s b ≡ false → AreAskers s bs askers → AreAskers s (bs ++ b ∷ []) askers
  noted_not askers bs b none noted q =
      noted q ∙ (alone (slice_get (filter (asks s q) bs) 0) ∙ ap (option_map (λ (c : Ours). c.stands)) (sym (first_added (asks s q) bs b ∙ ap (λ x. or_else (slice_get (filter (asks s q) bs) 0) (if x then Some b else None)) unasked)))
    where
      unasked : asks s q b ≡ false
      unasked = ap (λ x. x && (q.path.0 == b.path.0 && q.item.0 == b.item.0 && same_told (told_view q.finding) (told s b))) none

      alone : (o : Option Ours) → option_map (λ (c : Ours). c.stands) o ≡ option_map (λ (c : Ours). c.stands) (or_else o None)
      alone None = refl
      alone (Some c) = refl

  found_itself : (x : Found PathId NameId) → split.same_finding ids x x ≡ true
  found_itself split.nothing = refl
  found_itself split.several = refl
  found_itself (split.one p n x) = ap₂ (λ a b. a && b) (ap₂ (λ a b. a && b) (number_itself p.0) (number_itself n.0)) (sight_itself x)

  -- the imports of a name have their askers among those up to themselves
  pub has_asker : (g : List Ours) (i : ℕ) (b : Ours) → g ≡ split.of_name ids b.bound s.binders → slice_get g i ≡ Some b → split.leads_on ids s b ≡ true → HasAsker s (take i g) b
  has_asker g i b group at leads =
      let imports : not b.declares ≡ true = (both_true (not b.declares) (split.is_own_split ids s b.path b.item) leads).0 in
      let itself : asks_for b (split.finding ids s b) b (split.finding ids s b) ≡ true =
      ap₂ (λ x y. x && y) imports (ap₂ (λ x y. x && y) (ap₂ (λ x y. x && y) (number_itself b.path.0) (number_itself b.item.0)) (found_itself (split.finding ids s b))) in
      first_at s (λ c. asks_for b (split.finding ids s b) c (split.finding ids s c)) g i b at itself
      ∙ ap (λ (l : List Ours). split.first_or ids s b (filter (λ c. asks_for b (split.finding ids s b) c (split.finding ids s c)) l)) group

  pub aims_more : (old new : List (Ours × Aim)) (b : Ours) (a : Aim) → Puts old b a new → a ≡ aim_in s b → AreAims s old → AreAims s new
  aims_more old new b a puts is held c d there = elim (puts.only c d there) [ inl (k, v) ↦ v ∙ (is ∙ ap (aim_in s) (sym k)) | inr (apart, before) ↦ held c d before ]

  -- all binders of a name of one of them
  pub named_alike : (n : NameId) (g : List Ours) → g ≡ split.of_name ids n s.binders → (b : Ours) → Contains g b → g ≡ split.of_name ids b.bound s.binders
  named_alike n g group b c =
      let (d, t) = filter_in (λ x. n.0 == x.bound.0) s.binders b (subst (λ (l : List Ours). Contains l b) group c) in
      group ∙ ap (λ m. split.of_name ids m s.binders) (id_is n b.bound t)
