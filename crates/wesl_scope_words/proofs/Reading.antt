-- Steps of the loops over declared names that are spelled as words.
use Rattle.std.proofs.Common.{◌≡◌, ◌⊎◌, inl, inr, ℕ, zero, suc, ◌+◌, ◌<◌, ◌≤◌, Bool, true, false, cond, set, List, [], ◌∷◌, ◌++◌, length, get_or, drop, drop-cons, add-one, refl, sym, ap, ◌∙◌, subst, arith, Vec, Global}
use Rattle.std.specs.Prelude.{◌&&◌, ◌==◌, bytes_eq, nat_le, Option, Some, None, if◌then◌else◌}
use Rattle.std.specs.List.{cons_option, find}
use Rattle.std.specs.Option.{is_some, option_map, option_or, option_to_list}
use Rattle.std.proofs.Math.Dec.{leb}
use Rattle.std.proofs.lemmas.Bool.{and_from, and_parts}
use Rattle.std.proofs.lemmas.Bool.Decides.{Decides-eqb, leb_tells}
use Rattle.std.proofs.lemmas.List.{drop_all, get_or-set_same, get_or-set_other}
use Rattle.std.proofs.lemmas.List.Folds.{find-append}
use Rattle.std.proofs.lemmas.Slice.Eq.{bytes_eq-Decides}
use Rattle.wesl_tree_names.specs.Path.{Text}
use Rattle.wesl_scope_occurrences.specs.declared.occurrence.Occurrence.{Occurrence}
use Rattle.wesl_scope_occurrences.specs.Ways.{AreNested, way}
use Rattle.wesl_scope_occurrences.proofs.Joined.{way_module, way_unfolds}
use Rattle.wesl_scope_words.specs.Finding.{Look, first_in, first_of, groups_view, is_read, of_name, of_names, of_rival, read_outwards}
use Rattle.wesl_scope_words.specs.declared.clash.Binder.{Binder}
use Rattle.wesl_scope_words.specs.declared.rivals.Rival.{Rival}

abbrev binder_in : Rival → Binder
binder_in r = r.binder

-- ---- one or another
pub or_nothing : {X : Type 0} (o : Option X) → option_or o None ≡ o
or_nothing None = refl
or_nothing (Some x) = refl

or_regrouped : {X : Type 0} (a b c : Option X) → option_or (option_or a b) c ≡ option_or a (option_or b c)
or_regrouped None b c = refl
or_regrouped (Some x) b c = refl

pub or_mapped : {X Y : Type 0} (f : X → Y) (a b : Option X) → option_map f (option_or a b) ≡ option_or (option_map f a) (option_map f b)
or_mapped f None b = refl
or_mapped f (Some x) b = refl

-- one, and then others
pub one_joined : {X : Type 0} (o : Option X) (xs : List X) → cons_option o xs ≡ option_to_list o ++ xs
one_joined None xs = refl
one_joined (Some x) xs = refl

-- ---- the first of several
first_one : (w : Text) (p : ℕ) (r : Rival) → first_of w p (r ∷ []) ≡ (if is_read w p r then Some r.binder else None)
first_one w p r = by (is_read w p r)
  where
    by : (t : Bool) → option_map binder_in (cond t (Some r) None) ≡ (if t then Some r.binder else None)
    by true = refl
    by false = refl

first_pushed : (w : Text) (p : ℕ) (rs : List Rival) (r : Rival) → first_of w p (rs ++ r ∷ []) ≡ option_or (first_of w p rs) (if is_read w p r then Some r.binder else None)
first_pushed w p rs r =
    ap (option_map binder_in) (find-append (is_read w p) rs (r ∷ []))
    ∙ (or_mapped binder_in (find (is_read w p) rs) (find (is_read w p) (r ∷ []))
    ∙ ap (option_or (first_of w p rs)) (first_one w p r))

-- the next one
pub first_here : (w : Text) (p : ℕ) (rs : List Rival) (i : ℕ) (d : Rival) → i < length rs → is_read w p (get_or rs i d) ≡ true → first_of w p (drop i rs) ≡ Some (get_or rs i d).binder
first_here w p [] i d h e = absurd (omega (arith, h))
first_here w p (r ∷ rs) zero d h e = ap (λ t. option_map binder_in (cond t (Some r) (find (is_read w p) rs))) e
first_here w p (r ∷ rs) (suc i) d h e = first_here w p rs i d (omega (arith, h)) e

pub first_later : (w : Text) (p : ℕ) (rs : List Rival) (i : ℕ) (d : Rival) → i < length rs → is_read w p (get_or rs i d) ≡ false → first_of w p (drop i rs) ≡ first_of w p (drop (suc i) rs)
first_later w p [] i d h e = absurd (omega (arith, h))
first_later w p (r ∷ rs) zero d h e = ap (λ t. option_map binder_in (cond t (Some r) (find (is_read w p) rs))) e
first_later w p (r ∷ rs) (suc i) d h e = first_later w p rs i d (omega (arith, h)) e

-- ---- those that no word is read as
no_later : (a b c : ℕ) → nat_le a b ≡ true → nat_le b c ≡ true → nat_le a c ≡ true
no_later a b c e f = by (leb_tells a b) (leb_tells b c) (leb_tells a c)
  where
    by : ((leb a b ≡ true) × (a ≤ b)) ⊎ ((leb a b ≡ false) × (b < a)) → ((leb b c ≡ true) × (b ≤ c)) ⊎ ((leb b c ≡ false) × (c < b)) → ((leb a c ≡ true) × (a ≤ c)) ⊎ ((leb a c ≡ false) × (c < a)) → nat_le a c ≡ true
    by x y (inl z) = z.0
    by (inl x) (inl y) (inr z) = let p : a ≤ b = x.1 in let q : b ≤ c = y.1 in let r : c < a = z.1 in absurd (omega arith)
    by (inr x) y (inr z) = let p : leb a b ≡ false = x.0 in let q : leb a b ≡ true = e in absurd (let w : ⊥ = cc in w)
    by (inl x) (inr y) (inr z) = let p : leb b c ≡ false = y.0 in let q : leb b c ≡ true = f in absurd (let w : ⊥ = cc in w)

-- what passes at the one test passes at the other
found_too : {X : Type 0} (p q : X → Bool) → ((x : X) → p x ≡ true → q x ≡ true) → (xs : List X) → is_some (find p xs) ≡ true → is_some (find q xs) ≡ true
found_too p q m [] h = cc
found_too p q m (x ∷ xs) h = by (p x) (q x) refl refl h (found_too p q m xs)
  where
    by : (s t : Bool) → p x ≡ s → q x ≡ t → is_some (cond s (Some x) (find p xs)) ≡ true → (is_some (find p xs) ≡ true → is_some (find q xs) ≡ true) → is_some (cond t (Some x) (find q xs)) ≡ true
    by s true e f k r = refl
    by true false e f k r = absurd (let z : q x ≡ true = m x e in let w : ⊥ = cc in w)
    by false false e f k r = r k

some_mapped : {X Y : Type 0} (f : X → Y) (o : Option X) → is_some (option_map f o) ≡ is_some o
some_mapped f None = refl
some_mapped f (Some x) = refl

pub never_read : (before : List Rival) (next : Rival) → is_some (first_of next.word.now next.from before) ≡ true → (w : Text) (p : ℕ) → first_of w p (before ++ next ∷ []) ≡ first_of w p before
never_read before next h w p = first_pushed w p before next ∙ by (is_read w p next) refl
  where
    kept : (o : Option Rival) (b : Binder) → is_some o ≡ true → option_or (option_map binder_in o) (Some b) ≡ option_map binder_in o
    kept None b e = cc
    kept (Some r) b e = refl

    by : (t : Bool) → is_read w p next ≡ t → option_or (first_of w p before) (if t then Some next.binder else None) ≡ first_of w p before
    by false e = or_nothing (first_of w p before)
    by true e =
        let parts = and_parts (nat_le next.from p) (bytes_eq next.word.now w) e in
        let same = (bytes_eq-Decides next.word.now w).0 parts.1 in
        kept (find (is_read w p) before) next.binder
        (found_too (is_read next.word.now next.from) (is_read w p)
        (λ r k. let met = and_parts (nat_le r.from next.from) (bytes_eq r.word.now next.word.now) k in
        and_from (nat_le r.from p) (bytes_eq r.word.now w) (no_later r.from next.from p met.0 parts.0) (subst (λ v. bytes_eq r.word.now v ≡ true) same met.1))
        before (sym (some_mapped binder_in (find (is_read next.word.now next.from) before)) ∙ h))

-- ---- those of a block
groups_set : (of : List (Vec Rival Global)) (n : ℕ) (v : Vec Rival Global) → groups_view (set of n v) ≡ set (groups_view of) n v.items
groups_set [] n v = refl
groups_set (w ∷ of) zero v = refl
groups_set (w ∷ of) (suc n) v = ap (λ g. w.items ∷ g) (groups_set of n v)

pub group_at : (of : List (Vec Rival Global)) (n : ℕ) (v : Vec Rival Global) → n < length of → v ≡ get_or of n v → v.items ≡ get_or (groups_view of) n []
group_at [] n v h e = absurd (omega (arith, h))
group_at (w ∷ of) zero v h e = ap (λ x. x.items) e
group_at (w ∷ of) (suc n) v h e = group_at of n v (omega (arith, h)) e

as_many_groups : (of : List (Vec Rival Global)) → length (groups_view of) ≡ length of
as_many_groups [] = refl
as_many_groups (v ∷ of) = ap suc (as_many_groups of)

grown : (g : List (List Rival)) (n b : ℕ) (w : Text) (p : ℕ) (rs : List Rival) (r : Rival) → n < length g → first_of w p rs ≡ first_of w p (get_or g n [] ++ r ∷ []) → first_in (set g n rs) b w p ≡ option_or (first_in g b w p) (of_rival n r b w p)
grown g n b w p rs r h e = at (n == b) (Decides-eqb n b)
  where
    at : (t : Bool) → ((t ≡ true → n ≡ b) × (n ≡ b → t ≡ true)) → first_in (set g n rs) b w p ≡ option_or (first_in g b w p) (if t && is_read w p r then Some r.binder else None)
    at true d =
        subst (λ i. first_in (set g n rs) i w p ≡ option_or (first_in g i w p) (if is_read w p r then Some r.binder else None)) (d.0 refl)
        (ap (first_of w p) (get_or-set_same g n rs [] h) ∙ (e ∙ first_pushed w p (get_or g n []) r))
    at false d = ap (first_of w p) (get_or-set_other g n b rs [] (λ q. no (d.1 (sym q)))) ∙ sym (or_nothing (first_in g b w p))
      where
        no : false ≡ true → ⊥
        no f = cc

pub added_in : (of : List (Vec Rival Global)) (n : ℕ) (v x : Vec Rival Global) (r : Rival) → n < length of → v ≡ get_or of n v → ((w : Text) (p : ℕ) → first_of w p x.items ≡ first_of w p (v.items ++ r ∷ []))
    → (b : ℕ) (w : Text) (p : ℕ) → first_in (groups_view (set of n x)) b w p ≡ option_or (first_in (groups_view of) b w p) (of_rival n r b w p)
added_in of n v x r h e f b w p =
    ap (λ g. first_in g b w p) (groups_set of n x)
    ∙ grown (groups_view of) n b w p x.items r (subst (λ m. n < m) (sym (as_many_groups of)) h) (f w p ∙ ap (λ rs. first_of w p (rs ++ r ∷ [])) (group_at of n v h e))

-- ---- identifiers, one after the other
module _ (names : List Text) (os : List Occurrence) (b : ℕ) (w : Text) (p : ℕ) where
  pub more_met : (i : ℕ) (o : Occurrence) (old new z : Option Binder) → i < length os → o ≡ get_or os i o → new ≡ option_or old (of_name names o b w p)
      → option_or old (of_names names (drop i os) b w p) ≡ z → option_or new (of_names names (drop (i + 1) os) b w p) ≡ z
  more_met i o old new z h is new_is so =
      let rest = of_names names (drop (i + 1) os) b w p in
      let next : of_names names (drop i os) b w p ≡ option_or (of_name names o b w p) rest = rw (drop-cons os i o h, ← is, add-one) refl in
      ap (λ x. option_or x rest) new_is ∙ (or_regrouped old (of_name names o b w p) rest ∙ (ap (option_or old) (sym next) ∙ so))

  pub all_met : (i : ℕ) (now z : Option Binder) → length os ≤ i → option_or now (of_names names (drop i os) b w p) ≡ z → now ≡ z
  all_met i now z h so = sym (or_nothing now) ∙ (ap (λ xs. option_or now (of_names names xs b w p)) (sym (drop_all i os h)) ∙ so)

-- ---- blocks, from one outwards
pub first_some : {X : Type 0} (o rest : Option X) → is_some o ≡ true → option_or o rest ≡ o
first_some None rest h = cc
first_some (Some x) rest h = refl

pub first_none : {X : Type 0} (o rest : Option X) → is_some o ≡ false → option_or o rest ≡ rest
first_none None rest h = refl
first_none (Some x) rest h = cc

module _ (f : Look) (w : Text) (p : ℕ) (outer : List ℕ) where
  pub outwards : (b : ℕ) → AreNested outer → 0 < b → b < length outer → read_outwards f w p (way outer b) ≡ option_or (f b w p) (read_outwards f w p (way outer (get_or outer b 0)))
  outwards b nested some h = ap (read_outwards f w p) (way_unfolds outer b nested some h)

  pub at_module : (b : ℕ) → b ≤ 0 → b < length outer → read_outwards f w p (way outer b) ≡ f 0 w p
  at_module b none h =
      let is : b ≡ 0 = omega (arith, none) in
      ap (λ k. read_outwards f w p (way outer k)) is ∙ ap (read_outwards f w p) (way_module outer (omega (arith, h)))
