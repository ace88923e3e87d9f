-- What the code finds by meanings, read as the definition reads it.
use Rattle.std.proofs.Common.{◌≡◌, ℕ, zero, suc, ◌<◌, Bool, true, false, cond, List, [], ◌∷◌, length, get_or, map, refl, sym, ap, ap₂, ◌∙◌, subst, arith}
use Rattle.std.specs.Prelude.{not, ◌&&◌, ◌||◌, ◌==◌, nat_le, bytes_eq, slice_index_or, Option, Some, None, if◌then◌else◌}
use Rattle.std.specs.List.{All, find, filter, filter_map, list_any, cons_option}
use Rattle.std.specs.Option.{option_map, option_or}
use Rattle.std.proofs.lemmas.Bool.Decides.{Decides-eqb}
use Rattle.std.proofs.lemmas.List.{length-map}
use Rattle.std.proofs.lemmas.Slice.Eq.{bytes_eq-Decides}
use Rattle.wesl_tree_names.specs.Path.{Text}
use Rattle.wesl_tree_syntax.specs.Unit.{UnitView, name_in, trees_of, spelled}
use Rattle.wesl_tree_syntax.specs.Numbers.{AreNumbers, number_at}
use Rattle.wesl_scope_occurrences.specs.Occurrences.{Block, Standing, module_name, parameter, local, reference, word, Occurrence, occurrences, is_binder, is_unqualified}
use Rattle.wesl_scope_occurrences.specs.Walk.{Found}
use Rattle.wesl_scope_occurrences.specs.Ways.{AreNested, way, told}
use Rattle.wesl_scope_occurrences.specs.Views.{occurrence_view}
use Rattle.wesl_scope_occurrences.specs.Laws.{WaysLeadOutwards, SpellingKeepsOccurrences}
use Rattle.wesl_scope_occurrences.specs.declared.occurrence.Occurrence.{Occurrence as FoundOccurrence}
use Rattle.wesl_scope_meanings.specs.Scopes.{Key, bound, free, is_visible, binds, binder_of, meaning, key_as, key_of, keys, same_key}
use Rattle.wesl_scope_meanings.specs.Keys.{named}
use Rattle.wesl_scope_meanings.proofs.Entries.{one_test, keys_decide}
use Rattle.wesl_scope_meanings.proofs.Scoping.{same_way}
use Rattle.wesl_scope_numbers.specs.Faithful.{binders_of}
use Rattle.wesl_scope_numbers.specs.Test.{is_named, has_number}
use Rattle.wesl_scope_numbers.proofs.Picked.{Picked, none, some, picked}
use Rattle.wesl_scope_clashes.specs.declared.clash.Binder.{Binder}
use Rattle.wesl_scope_clashes.specs.declared.clash.Reading.TheVariants.{Captured, Duplicate}
use Rattle.wesl_scope_clashes.specs.declared.clash.Clash.{Clash}
use Rattle.wesl_scope_clashes.specs.Clashes.{clash_view, binder_at, has_other, read_among, is_rival, clash_at, clashes}
use Rattle.wesl_scope_clashes.specs.Sightings.{differs, is_seen, is_declared, first_met}
use Rattle.wesl_scope_clashes.specs.ByMeaning.{read_by, clash_by, clashes_by}
use mathlib.Core.Bool.{and-false}

-- ---- tests
both_true : (a b c : Bool) → (a && (b && c)) ≡ ((a && b) && c)
both_true true b c = refl
both_true false b c = refl

-- a binder of a block, by its key
keyed : (t v x y : Bool) → t ≡ (x && y) → (t && v) ≡ (v && (y && x))
keyed t true true true e = ap (λ s. s && true) e
keyed t true true false e = ap (λ s. s && true) e
keyed t true false true e = ap (λ s. s && true) e
keyed t true false false e = ap (λ s. s && true) e
keyed t false x y e = and-false t

declared_so : (t b z w y v : Bool) → z ≡ w → (b ≡ true → t ≡ (w && y)) → (t && ((b && z) && v)) ≡ (((b && w) && y) && v)
declared_so t true z w y v e f = ap₂ (λ s q. s && (q && v)) (f refl) e ∙ at w y v
  where
    at : (a b c : Bool) → ((a && b) && (a && c)) ≡ ((a && b) && c)
    at true true c = refl
    at true false c = refl
    at false b c = refl
declared_so t false z w y v e f = and-false t

-- ---- searches
find_same : {X : Type 0} (p q : X → Bool) → ((x : X) → p x ≡ q x) → (xs : List X) → find p xs ≡ find q xs
find_same p q e [] = refl
find_same p q e (x ∷ xs) = ap₂ (λ t r. cond t (Some x) r) (e x) (find_same p q e xs)

find_filtered : {X : Type 0} (q r : X → Bool) (xs : List X) → find r (filter q xs) ≡ find (λ x. q x && r x) xs
find_filtered q r [] = refl
find_filtered q r (x ∷ xs) = by (q x) (find_filtered q r xs)
  where
    by : (t : Bool) → find r (filter q xs) ≡ find (λ y. q y && r y) xs → find r (cond t (x ∷ filter q xs) (filter q xs)) ≡ cond (t && r x) (Some x) (find (λ y. q y && r y) xs)
    by true e = ap (λ o. cond (r x) (Some x) o) e
    by false e = e

find_nothing : {X : Type 0} (xs : List X) → find (λ x. false) xs ≡ None
find_nothing [] = refl
find_nothing (x ∷ xs) = find_nothing xs

any_mapped : {X Y : Type 0} (f : X → Y) (p : Y → Bool) (xs : List X) → list_any p (map f xs) ≡ list_any (λ x. p (f x)) xs
any_mapped f p [] = refl
any_mapped f p (x ∷ xs) = ap (λ r. p (f x) || r) (any_mapped f p xs)

mapped_again : {X Y Z : Type 0} (f : X → Y) (g : Y → Z) (o : Option X) → option_map g (option_map f o) ≡ option_map (λ x. g (f x)) o
mapped_again f g None = refl
mapped_again f g (Some x) = refl

-- ---- two lists side by side
abbrev pub Pairs : (ℕ → Found → Type 0) → List ℕ → List Found → Type 0
Pairs P (n ∷ ns) (o ∷ os) = P n o × Pairs P ns os
Pairs P [] [] = Unit {0}
Pairs P _ _ = ⊥

pairs_by : (P : ℕ → Found → Type 0) (ns : List ℕ) (os : List Found) → length ns ≡ length os → ((i : ℕ) (d : Found) → i < length os → P (number_at ns i) (get_or os i d)) → Pairs P ns os
pairs_by P [] [] e h = tt
pairs_by P [] (o ∷ os) e h = absurd (omega (arith, e))
pairs_by P (n ∷ ns) [] e h = absurd (omega (arith, e))
pairs_by P (n ∷ ns) (o ∷ os) e h = (h 0 o (omega arith), pairs_by P ns os (omega (arith, e)) (λ i d l. h (suc i) d (omega (arith, l))))

pairs_so : (P Q : ℕ → Found → Type 0) → ((n : ℕ) (o : Found) → P n o → Q n o) → (ns : List ℕ) (os : List Found) → Pairs P ns os → Pairs Q ns os
pairs_so P Q f [] [] h = tt
pairs_so P Q f [] (o ∷ os) h = h
pairs_so P Q f (n ∷ ns) [] h = h
pairs_so P Q f (n ∷ ns) (o ∷ os) h = (f n o h.0, pairs_so P Q f ns os h.1)

-- ---- identifiers, each with its meaning, where the block of a number is `w`
module _ (names : List Text) (w : ℕ → Block) where
  abbrev told_all : List Found → List (Occurrence ℕ)
  told_all os = map (told w) os

  -- what is found first is what a search finds by a test that says the same
  same_met : (test : ℕ → Found → Bool) (q : Occurrence ℕ → Bool) (k p : ℕ) (x : Option ℕ) (ns : List ℕ) (os : List Found) → Pairs (λ n o. (n == k && test p o) ≡ q (told w o)) ns os
      → first_met test ns os k p x ≡ option_map binder_at (find (λ b. q b && differs x b.name) (told_all os))
  same_met test q k p x [] [] h = refl
  same_met test q k p x [] (o ∷ os) h = absurd h
  same_met test q k p x (n ∷ ns) [] h = absurd h
  same_met test q k p x (n ∷ ns) (o ∷ os) h =
      by (n == k && (test p o && differs x o.name)) (q (told w o) && differs x o.name) (both_true (n == k) (test p o) (differs x o.name) ∙ ap (λ t. t && differs x o.name) h.0) _ _ (same_met test q k p x ns os h.1)
    where
      by : (a b : Bool) → a ≡ b → (r : Option Binder) (s : Option (Occurrence ℕ)) → r ≡ option_map binder_at s → option_or (if a then Some (binder_at o) else None) r ≡ option_map binder_at (cond b (Some (told w o)) s)
      by true true e r s f = refl
      by false false e r s f = f
      by true false e r s f = absurd (let z : ⊥ = cc in z)
      by false true e r s f = absurd (let z : ⊥ = cc in z)

  module _ (ns : List ℕ) (os : List Found) where
    abbrev whole : List (Occurrence Text)
    whole = map (named names) (told_all os)

    abbrev key_here : Found → Key
    key_here o = key_of whole (named names (told w o))

    -- the number k stands for this meaning
    abbrev Means : ℕ → Key → Type 0
    Means k key = Pairs (λ n o. (n == k) ≡ same_key (key_here o) key) ns os

    -- ---- the binders that a reference picks
    seen_so : (o : Found) (r : Standing) (t : Bool) (b : Block) (n : Text) (p : ℕ) → t ≡ same_key (key_as whole (named names (told w o)) r) (bound b n)
        → (t && is_visible p r) ≡ (is_visible p r && (bytes_eq (name_in names o.name) n && bytes_eq (w o.block) b))
    seen_so o module_name t b n p e = keyed t true (bytes_eq (w o.block) b) (bytes_eq (name_in names o.name) n) e
    seen_so o parameter t b n p e = keyed t true (bytes_eq (w o.block) b) (bytes_eq (name_in names o.name) n) e
    seen_so o (local end) t b n p e = keyed t (nat_le end p) (bytes_eq (w o.block) b) (bytes_eq (name_in names o.name) n) e
    seen_so o (reference by) t b n p e = and-false t
    seen_so o word t b n p e = and-false t

    unseen_so : (o : Found) (r : Standing) (t : Bool) (n : Text) (p : ℕ) → t ≡ same_key (key_as whole (named names (told w o)) r) (free n) → (t && is_visible p r) ≡ false
    unseen_so o module_name t n p e = ap (λ s. s && true) e
    unseen_so o parameter t n p e = ap (λ s. s && true) e
    unseen_so o (local end) t n p e = ap (λ s. s && nat_le end p) e
    unseen_so o (reference by) t n p e = and-false t
    unseen_so o word t n p e = and-false t

    seen_by : (k p : ℕ) (x : Option ℕ) (n : Text) (b : Block) → Means k (meaning n (binder_of whole n p b)) → Picked names (told_all os) n p b
        → first_met is_seen ns os k p x ≡ option_map binder_at (find (λ o. differs x o.name) (binders_of names (told_all os) n p b))
    seen_by k p x n b m (none e f) =
        same_met is_seen (λ o. false) k p x ns os
        (pairs_so (λ i o. (i == k) ≡ same_key (key_here o) (free n)) (λ i o. (i == k && is_seen p o) ≡ false) (λ i o h. unseen_so o o.role (i == k) n p h) ns os (subst (Means k) (ap (meaning n) e) m))
        ∙ ap (option_map binder_at) (find_nothing (told_all os) ∙ sym (ap (find (λ o. differs x o.name)) f))
    seen_by k p x n b m (some y first more e f g) =
        same_met is_seen (λ o. binds y.block n p (named names o)) k p x ns os
        (pairs_so (λ i o. (i == k) ≡ same_key (key_here o) (bound y.block n)) (λ i o. (i == k && is_seen p o) ≡ binds y.block n p (named names (told w o))) (λ i o h. seen_so o o.role (i == k) y.block n p h) ns os (subst (Means k) (ap (meaning n) e) m))
        ∙ ap (option_map binder_at) (sym (find_filtered (λ o. binds y.block n p (named names o)) (λ o. differs x o.name) (told_all os)) ∙ sym (ap (find (λ o. differs x o.name)) f))

    -- ---- the rivals of a binder of the module's block
    abbrev IsRoot : Found → Type 0
    IsRoot o = (o.block == 0) ≡ bytes_eq (w o.block) []

    bound_key : (o : Found) (r : Standing) (n : Text) → is_binder r ≡ true → same_key (key_as whole (named names (told w o)) r) (bound [] n) ≡ (bytes_eq (w o.block) [] && bytes_eq (name_in names o.name) n)
    bound_key o module_name n e = refl
    bound_key o parameter n e = refl
    bound_key o (local end) n e = refl
    bound_key o (reference by) n e = absurd (let z : ⊥ = cc in z)
    bound_key o word n e = absurd (let z : ⊥ = cc in z)

    declared_by : (k : ℕ) (a : Found) → Means k (bound [] (name_in names a.name)) → Pairs (λ n o. IsRoot o) ns os
        → first_met is_declared ns os k a.place (Some a.name) ≡ option_map binder_at (find (is_rival names (told_all os) (told w a)) (told_all os))
    declared_by k a m roots =
        same_met is_declared (λ b. is_named names (name_in names a.name) b && nat_le b.place a.place) k a.place (Some a.name) ns os
        (pairs_two ns os m roots)
        ∙ ap (option_map binder_at) (find_same (λ b. (is_named names (name_in names a.name) b && nat_le b.place a.place) && not (b.name == a.name)) (is_rival names (told_all os) (told w a)) (λ b. sym (both_true (is_named names (name_in names a.name) b) (nat_le b.place a.place) (not (b.name == a.name)))) (told_all os))
      where
        pairs_two : (is : List ℕ) (rs : List Found) → Pairs (λ n o. (n == k) ≡ same_key (key_here o) (bound [] (name_in names a.name))) is rs → Pairs (λ n o. IsRoot o) is rs
            → Pairs (λ n o. (n == k && is_declared a.place o) ≡ (is_named names (name_in names a.name) (told w o) && nat_le o.place a.place)) is rs
        pairs_two [] [] f g = tt
        pairs_two [] (o ∷ rs) f g = f
        pairs_two (i ∷ is) [] f g = f
        pairs_two (i ∷ is) (o ∷ rs) f g = (
          declared_so (i == k) (is_binder o.role) (o.block == 0) (bytes_eq (w o.block) []) (bytes_eq (name_in names o.name) (name_in names a.name)) (nat_le o.place a.place) g.0 (λ e. f.0 ∙ bound_key o o.role (name_in names a.name) e),
          pairs_two is rs f.1 g.1,
        )

    -- ---- one identifier
    read_so : (m : ℕ) (picks : List (Occurrence ℕ)) (a b : Option Binder) (f : Bool) → a ≡ option_map binder_at (find (λ o. differs None o.name) picks) → b ≡ option_map binder_at (find (λ o. differs (Some m) o.name) picks)
        → f ≡ list_any (has_number m) (told_all os) → read_by a b f ≡ read_among names (told_all os) m picks
    read_so m [] a b f e g h = ap₂ (λ x t. read_by x b t) e h
    read_so m (p ∷ ps) a b f e g h = ap₂ (λ x y. read_by x y f) e g ∙ mapped_again binder_at Captured (find (has_other m) (p ∷ ps))

    bound_so : (m : ℕ) → list_any (has_number m) os ≡ list_any (has_number m) (told_all os)
    bound_so m = sym (any_mapped (told w) (has_number m) os)

    same_reading : (z b : Bool) → z ≡ b → (found : Option Binder) (rival : Option (Occurrence ℕ)) → (b ≡ true → found ≡ option_map binder_at rival)
        → (if z then option_map Duplicate found else None) ≡ (if b then option_map (λ o. Duplicate (binder_at o)) rival else None)
    same_reading true true e found rival f = ap (option_map Duplicate) (f refl) ∙ mapped_again binder_at Duplicate rival
    same_reading false false e found rival f = refl
    same_reading true false e found rival f = absurd (let z : ⊥ = cc in z)
    same_reading false true e found rival f = absurd (let z : ⊥ = cc in z)

    module _ (roots : Pairs (λ n o. IsRoot o) ns os) (k : ℕ) (o : Found) (root : IsRoot o) where
      abbrev n_here : Text
      n_here = name_in names o.name

      binder_so : Means k (bound (w o.block) n_here)
          → (if o.block == 0 then option_map Duplicate (first_met is_declared ns os k o.place (Some o.name)) else None) ≡ (if bytes_eq (w o.block) [] then option_map (λ b. Duplicate (binder_at b)) (find (is_rival names (told_all os) (told w o)) (told_all os)) else None)
      binder_so m =
          same_reading (o.block == 0) (bytes_eq (w o.block) []) root (first_met is_declared ns os k o.place (Some o.name)) (find (is_rival names (told_all os) (told w o)) (told_all os))
          (λ e. declared_by k o (subst (λ b. Means k (bound b n_here)) ((bytes_eq-Decides (w o.block) []).0 e) m) roots)

      reference_so : Means k (meaning n_here (binder_of whole n_here o.place (w o.block)))
          → read_by (first_met is_seen ns os k o.place None) (first_met is_seen ns os k o.place (Some o.name)) (list_any (has_number o.name) os) ≡ read_among names (told_all os) o.name (binders_of names (told_all os) n_here o.place (w o.block))
      reference_so m =
          let found = picked names (told_all os) n_here o.place (w o.block) in
          read_so o.name (binders_of names (told_all os) n_here o.place (w o.block)) (first_met is_seen ns os k o.place None) (first_met is_seen ns os k o.place (Some o.name)) (list_any (has_number o.name) os)
          (seen_by k o.place None n_here (w o.block) m found) (seen_by k o.place (Some o.name) n_here (w o.block) m found) (bound_so o.name)

      reading_so : (r : Standing) → Means k (key_as whole (named names (told w o)) r)
          → (if is_unqualified r then read_by (first_met is_seen ns os k o.place None) (first_met is_seen ns os k o.place (Some o.name)) (list_any (has_number o.name) os) else (if is_binder r && o.block == 0 then option_map Duplicate (first_met is_declared ns os k o.place (Some o.name)) else None))
          ≡ (if is_unqualified r then read_among names (told_all os) o.name (binders_of names (told_all os) n_here o.place (w o.block)) else (if is_binder r && bytes_eq (w o.block) [] then option_map (λ b. Duplicate (binder_at b)) (find (is_rival names (told_all os) (told w o)) (told_all os)) else None))
      reading_so module_name m = binder_so m
      reading_so parameter m = binder_so m
      reading_so (local end) m = binder_so m
      reading_so (reference None) m = reference_so m
      reading_so (reference (Some path)) m = refl
      reading_so word m = refl

      clash_so : Means k (key_here o) → clash_by (first_met is_seen ns os) (first_met is_declared ns os) (λ m. list_any (has_number m) os) names k o ≡ clash_at names (told_all os) (told w o)
      clash_so m = ap (option_map (λ r. record { place = o.place; name = n_here; number = o.name; reading = r })) (reading_so o.role m)

    -- ---- all of them
    clashes_so : Pairs (λ n o. IsRoot o) ns os → (is : List ℕ) (rs : List Found) → Pairs (λ k o. IsRoot o × Means k (key_here o)) is rs
        → clashes_by (first_met is_seen ns os) (first_met is_declared ns os) (λ m. list_any (has_number m) os) names is rs ≡ filter_map (clash_at names (told_all os)) (told_all rs)
    clashes_so roots [] [] h = refl
    clashes_so roots [] (o ∷ rs) h = absurd h
    clashes_so roots (i ∷ is) [] h = absurd h
    clashes_so roots (i ∷ is) (o ∷ rs) h = ap₂ cons_option (clash_so roots i o h.0.0 h.0.1) (clashes_so roots is rs h.1)

    key_at : (xs : List Found) (i : ℕ) (d : Key) (x : Found) → i < length xs → slice_index_or (map key_here xs) i d ≡ key_here (get_or xs i x)
    key_at [] i d x h = absurd (omega (arith, h))
    key_at (y ∷ xs) zero d x h = refl
    key_at (y ∷ xs) (suc i) d x h = key_at xs i d x (omega (arith, h))

    module _ (numbers : AreNumbers (map key_here os) ns) where
      one_each : length ns ≡ length os
      one_each = numbers.one_each ∙ length-map os key_here

      same_test : (i j : ℕ) (d e : Found) → i < length os → j < length os → (number_at ns j == number_at ns i) ≡ same_key (key_here (get_or os j e)) (key_here (get_or os i d))
      same_test i j d e li lj =
          let x : Key = key_here d in
          let m = length-map os key_here in
          let eq = numbers.equal_where_keys x j i (omega (arith, lj, m)) (omega (arith, li, m)) in
          let at_i = key_at os i x d li in
          let at_j = key_at os j x e lj in
          let keys = keys_decide (key_here (get_or os j e)) (key_here (get_or os i d)) in
          one_test (number_at ns j == number_at ns i) (same_key (key_here (get_or os j e)) (key_here (get_or os i d))) (Decides-eqb (number_at ns j) (number_at ns i))
          (λ s. eq.1 (at_j ∙ (keys.0 s ∙ sym at_i)), λ n. keys.1 (sym at_j ∙ (eq.0 n ∙ at_i)))

      pub all_so : All IsRoot os → clashes_by (first_met is_seen ns os) (first_met is_declared ns os) (λ m. list_any (has_number m) os) names ns os ≡ filter_map (clash_at names (told_all os)) (told_all os)
      all_so roots =
          clashes_so (pairs_by (λ n o. IsRoot o) ns os one_each (λ i d l. roots i d l)) ns os
          (pairs_by (λ k o. IsRoot o × Means k (key_here o)) ns os one_each
          (λ i d l. (roots i d l, pairs_by (λ n o. (n == number_at ns i) ≡ same_key (key_here o) (key_here (get_or os i d))) ns os one_each (λ j e m. same_test i j d e l m))))

-- ---- a whole module
mapped_thrice : {X Y Z W : Type 0} (h : X → Y) (g : Y → Z) (f : Z → W) (xs : List X) → map f (map g (map h xs)) ≡ map (λ x. f (g (h x))) xs
mapped_thrice h g f [] = refl
mapped_thrice h g f (x ∷ xs) = ap (λ ys. f (g (h x)) ∷ ys) (mapped_thrice h g f xs)

viewed_at : (xs : List FoundOccurrence) (i : ℕ) (d : Found) (x : FoundOccurrence) → i < length xs → get_or (map occurrence_view xs) i d ≡ occurrence_view (get_or xs i x)
viewed_at [] i d x h = absurd (omega (arith, h))
viewed_at (y ∷ xs) zero d x h = refl
viewed_at (y ∷ xs) (suc i) d x h = viewed_at xs i d x (omega (arith, h))

pub all_viewed : (P : Found → Type 0) (xs : List FoundOccurrence) → All (λ o. P (occurrence_view o)) xs → All P (map occurrence_view xs)
all_viewed P [] h = λ i d l. absurd (omega (arith, l))
all_viewed P (x ∷ xs) h = λ i d l.
    let k : i < length (x ∷ xs) = omega (arith, l, length-map (x ∷ xs) occurrence_view) in
    subst P (sym (viewed_at (x ∷ xs) i d x k)) (h i x k)

pub same_count : SpellingKeepsOccurrences → (v : UnitView) (w : ℕ → Block) (items a : List FoundOccurrence) (means ms : List ℕ)
    → map (told w) (map occurrence_view items) ≡ occurrences (trees_of v) → AreNumbers (keys (occurrences (spelled v))) means → a ≡ items → ms ≡ means → length ms ≡ length a
same_count spelling v w items a means ms found numbers a_is ms_is =
    ap length ms_is
    ∙ (numbers.one_each
    ∙ (ap (λ l. length (keys l)) (spelling v ∙ ap (map (named v.names)) (sym found))
    ∙ (length-map (map (named v.names) (map (told w) (map occurrence_view items))) (key_of (map (named v.names) (map (told w) (map occurrence_view items))))
    ∙ (length-map (map (told w) (map occurrence_view items)) (named v.names) ∙ (length-map (map occurrence_view items) (told w) ∙ (length-map items occurrence_view ∙ sym (ap length a_is)))))))

pub told_are : WaysLeadOutwards → SpellingKeepsOccurrences → (v : UnitView) (outer : List ℕ) (items a : List FoundOccurrence) (means ms : List ℕ) (names : List Text)
    → AreNested outer → All (λ o. o.block < length outer) items → map (told (way outer)) (map occurrence_view items) ≡ occurrences (trees_of v)
    → AreNumbers (keys (occurrences (spelled v))) means → names ≡ v.names → a ≡ items → ms ≡ means
    → clashes_by (first_met is_seen ms (map occurrence_view a)) (first_met is_declared ms (map occurrence_view a)) (λ m. list_any (has_number m) (map occurrence_view a)) names ms (map occurrence_view a) ≡ clashes v
told_are ways spelling v outer items a means ms names nested blocks found numbers names_is a_is ms_is =
    let os = map occurrence_view items in
    let w = way outer in
    let those = map (told w) os in
    let keyed : keys (occurrences (spelled v)) ≡ map (key_here v.names w means os) os =
    ap keys (spelling v ∙ ap (map (named v.names)) (sym found)) ∙ mapped_thrice (told w) (named v.names) (key_of (map (named v.names) those)) os in
    let roots : All (λ o. (o.block == 0) ≡ bytes_eq (w o.block) []) os =
    all_viewed (λ o. (o.block == 0) ≡ bytes_eq (w o.block) []) items
    (λ i d l. let b : ℕ = (get_or items i d).block in
    let h : b < length outer = blocks i d l in
    let begun : 0 < length outer = omega (arith, h) in
    sym (ap (bytes_eq (w b)) (sym (ways.whole outer begun)) ∙ same_way ways outer b 0 nested h begun)) in
    ap (λ n. clashes_by (first_met is_seen ms (map occurrence_view a)) (first_met is_declared ms (map occurrence_view a)) (λ m. list_any (has_number m) (map occurrence_view a)) n ms (map occurrence_view a)) names_is
    ∙ (ap₂ (λ n x. clashes_by (first_met is_seen n (map occurrence_view x)) (first_met is_declared n (map occurrence_view x)) (λ m. list_any (has_number m) (map occurrence_view x)) v.names n (map occurrence_view x)) ms_is a_is
    ∙ (all_so v.names w means os (subst (λ k. AreNumbers k means) keyed numbers) roots
    ∙ ap (λ o. filter_map (clash_at v.names o) o) found))

pub none_told : (xs : List Clash) → map clash_view xs ≡ [] → xs ≡ []
none_told [] e = refl
none_told (x ∷ xs) e = absurd (let z : ⊥ = cc in z)
