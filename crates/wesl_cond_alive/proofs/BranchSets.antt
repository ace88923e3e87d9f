-- The sets of branches, one branch after the other.
use Rattle.std.proofs.Common.{◌≡◌, ℕ, zero, suc, ◌+◌, ◌^◌, ◌<◌, Bool, true, not, ◌&&◌, cond, List, [], ◌∷◌, ◌++◌, length, length-append, length-take-le, map, take, get_or, slice_get, Some, inl, inr, refl, sym, ap, ◌∙◌, subst, arith}
use Rattle.std.specs.Prelude.{nat_lt}
use Rattle.std.proofs.lemmas.Bool.{lt-ltb}
use Rattle.std.proofs.lemmas.List.{length-map, map_more}
use Rattle.std.proofs.lemmas.List.Elements.{Contains-append_cases}
use Rattle.wesl_cond_chains.specs.Picked.{Choice}
use Rattle.wesl_cond_choices.specs.Alive.{AreOver, set_has}
use Rattle.wesl_cond_choices.specs.Choices.{Choices, has}
use Rattle.wesl_cond_sets.proofs.KeptSets.{get_before, get_last}
use Rattle.wesl_cond_alive.specs.Sets.{AreNested, AreSet, AreSetsOf, IsNarrowed, has_choice, value}
use Rattle.wesl_cond_alive.specs.Walk.{Branch, all_choices, no_choices}

module _ {I : Type 0} where
  module _ (choice : Choice I) where
    -- whether a branch's chain has left the choice when it comes to the branch, and after it
    abbrev pub left_at : Bool → Branch I → Bool
    left_at free b = cond b.begins true free

    abbrev pub left_after : Bool → List (Branch I) → Bool
    left_after free [] = free
    left_after free (b ∷ bs) = left_after (left_at free b && not (value choice b.formula)) bs

    pub left_more : (bs : List (Branch I)) (b : Branch I) (free : Bool) → left_after free (bs ++ b ∷ []) ≡ (left_at (left_after free bs) b && not (value choice b.formula))
    left_more [] b free = refl
    left_more (a ∷ bs) b free = left_more bs b (left_at free a && not (value choice a.formula))

    -- one branch more
    pub set_more : (has : ℕ → Bool) (bs : List (Branch I)) (b : Branch I) (next : ℕ) (free : Bool) → AreSet choice has next free bs
        → has (next + length bs) ≡ (has b.holder && (left_at (left_after free bs) b && value choice b.formula)) → AreSet choice has next free (bs ++ b ∷ [])
    set_more has [] b next free s e = let is : next ≡ next + 0 = omega arith in (ap has is ∙ e, tt)
    set_more has (a ∷ bs) b next free s e =
        let is : suc next + length bs ≡ next + suc (length bs) = omega arith in
        (s.0, set_more has bs b (suc next) (left_at free a && not (value choice a.formula)) s.1 (ap has is ∙ e))

    -- only the sets up to the last of these count
    pub sets_same : (h g : ℕ → Bool) (bs : List (Branch I)) (next : ℕ) (free : Bool) → AreNested next bs → ((n : ℕ) → n < next + length bs → h n ≡ g n)
        → AreSet choice h next free bs → AreSet choice g next free bs
    sets_same h g [] next free d e s = tt
    sets_same h g (b ∷ bs) next free d e s =
        let low : b.holder < next + suc (length bs) = omega (arith, d.0) in
        let own : next < next + suc (length bs) = omega arith in (
          sym (e next own) ∙ s.0 ∙ ap (λ x. x && (left_at free b && value choice b.formula)) (e b.holder low),
          sets_same h g bs (suc next) (left_at free b && not (value choice b.formula)) d.1 (λ n l. let m : n < next + suc (length bs) = omega arith in e n m) s.1,
        )

  module _ {X : Type 0} (view : X → Branch I) where
    pub nested_take : (xs : List X) (i next : ℕ) → AreNested next (map view xs) → AreNested next (map view (take i xs))
    nested_take xs zero next d = tt
    nested_take [] (suc i) next d = tt
    nested_take (x ∷ xs) (suc i) next d = (d.0, nested_take xs i (suc next) d.1)

    nested_get : (xs : List X) (i next : ℕ) (y : X) → AreNested next (map view xs) → i < length xs → (view (get_or xs i y)).holder < next + i
    nested_get [] i next y d h = absurd (omega arith)
    nested_get (x ∷ xs) zero next y d h = omega (arith, d.0)
    nested_get (x ∷ xs) (suc i) next y d h = let ih = nested_get xs i (suc next) y d.1 (omega arith) in omega arith

    pub nested_at : (xs : List X) (i next : ℕ) (y : X) → AreNested next (map view xs) → i < length xs → y ≡ get_or xs i y → (view y).holder < next + i
    nested_at xs i next y d h is = subst (λ z. (view z).holder < next + i) (sym is) (nested_get xs i next y d h)

    pub counted : (xs : List X) (i : ℕ) → i < length xs → length (map view (take i xs)) ≡ i
    counted xs i h = length-map (take i xs) view ∙ length-take-le i xs (omega arith)

    pub taken : (xs : List X) (i : ℕ) (y : X) → i < length xs → y ≡ get_or xs i y → map view (take (i + 1) xs) ≡ map view (take i xs) ++ view y ∷ []
    taken xs i y h is = map_more view xs i y h ∙ ap (λ z. map view (take i xs) ++ view z ∷ []) (sym is)

pub is_all : (k n : ℕ) → k < 2 ^ n → nat_lt k (2 ^ n) ≡ true
is_all k n l = lt-ltb k (2 ^ n) l

-- ---- sets, one more

-- the sets so far, and what the last chain leaves
pub record SoFar (flags : ℕ) (choice : ℕ → Choice ℕ) (sets : List Choices) (left : Choices) (bs : List (Branch ℕ)) : Type 0 where
  pub sets_are : AreSetsOf flags choice sets bs
  pub count : length sets ≡ 2 + length bs
  pub left_over : left.flags ≡ flags
  pub left_is : (k : ℕ) → k < 2 ^ flags → has left k ≡ left_after (choice k) true bs

only_one : (c d : Choices) (i : ℕ) → i < 1 → get_or (c ∷ []) i d ≡ d → c ≡ d
only_one c d zero h e = e
only_one c d (suc i) h e = absurd (omega arith)

pub over_more : (flags : ℕ) (sets : List Choices) (c : Choices) → AreOver flags sets → c.flags ≡ flags → AreOver flags (sets ++ c ∷ [])
over_more flags sets c o e = λ d h. elim (Contains-append_cases sets (c ∷ []) d h) [ inl a ↦ o d a | inr b ↦ ap (λ (y : Choices). y.flags) (sym (only_one c d b.0 b.1 b.2)) ∙ e ]

module _ (flags : ℕ) (choice : ℕ → Choice ℕ) where
  -- a branch more
  pub branch_more : (sets : List Choices) (left before after own set holder : Choices) (bs : List (Branch ℕ)) (b : Branch ℕ)
      → SoFar flags choice sets left bs → AreNested 2 bs → slice_get sets b.holder ≡ Some holder → holder.flags ≡ flags → b.holder < 2 + length bs
      → ((k : ℕ) → k < 2 ^ flags → has before k ≡ left_at (choice k) (has left k) b)
      → ((k : ℕ) → k < 2 ^ flags → has own k ≡ value (choice k) b.formula)
      → IsNarrowed holder before own set
      → after.flags ≡ flags → ((k : ℕ) → has after k ≡ (has before k && not (has own k)))
      → SoFar flags choice (sets ++ set ∷ []) after (bs ++ b ∷ [])
  branch_more sets left before after own set holder bs b s d there held_over low begun own_is narrow over after_is =
      let same : (k n : ℕ) → n < 2 + length bs → has_choice sets k n ≡ has_choice (sets ++ set ∷ []) k n =
      λ k n l. let m : n < length sets = omega (arith, s.count) in ap (set_has k) (sym (get_before sets set n m)) in
      let zero_low : all_choices < 2 + length bs = omega arith in
      let one_low : no_choices < 2 + length bs = omega arith in
      record {
        sets_are = record {
          over = over_more flags sets set s.sets_are.over (narrow.over ∙ held_over);
          all = λ k l. sym (same k all_choices zero_low) ∙ s.sets_are.all k l;
          none = λ k. sym (same k no_choices one_low) ∙ s.sets_are.none k;
          told = λ k l.
              let last : has_choice (sets ++ set ∷ []) k (2 + length bs) ≡ has set k =
              ap (λ n. has_choice (sets ++ set ∷ []) k n) (sym s.count) ∙ ap (set_has k) (get_last sets set) in
              let held : has holder k ≡ has_choice (sets ++ set ∷ []) k b.holder = sym (ap (set_has k) there) ∙ same k b.holder low in
              let free : has before k ≡ left_at (choice k) (left_after (choice k) true bs) b = begun k l ∙ ap (λ x. left_at (choice k) x b) (s.left_is k l) in
              set_more (choice k) (has_choice (sets ++ set ∷ []) k) bs b 2 true
              (sets_same (choice k) (has_choice sets k) (has_choice (sets ++ set ∷ []) k) bs 2 true d (same k) (s.sets_are.told k l))
              (last ∙ (narrow.is k ∙ (λ t. held t && (free t && own_is k l t))));
        };
        count = omega (arith, s.count, length-append sets (set ∷ []), length-append bs (b ∷ []));
        left_over = over;
        left_is = λ k l.
            let free : has before k ≡ left_at (choice k) (left_after (choice k) true bs) b = begun k l ∙ ap (λ x. left_at (choice k) x b) (s.left_is k l) in
            after_is k ∙ ((λ t. free t && not (own_is k l t)) ∙ sym (left_more (choice k) bs b true));
      }
