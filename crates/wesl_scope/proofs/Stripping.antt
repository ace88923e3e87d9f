-- Marked declarations moved to the front.
use Rattle.std.proofs.Common.{◌≡◌, ℕ, zero, suc, ◌+◌, ◌<◌, ◌≤◌, Bool, true, false, ◌&&◌, cond, List, [], ◌∷◌, ◌++◌, length, get_or, map, take, drop, set, refl, sym, ◌∙◌, ap, subst, arith, ◌≢◌, ◌⊎◌, inl, inr, get_or-set_same, get_or-set_other}
use Rattle.std.specs.List.{swap}
use Rattle.std.proofs.Math.Seq.{take-suc}
use Rattle.std.proofs.lemmas.List.{take-set-le, length-set, take_all, length-take-le, get_or-drop, drop-set-lt, append-nil}
use Rattle.std.proofs.lemmas.Bool.{and_parts, cases_eq}
use Rattle.wesl_tree_syntax.specs.Tree.{Forest, Tree, end, tree, forest_of, label_below, forest_below, tree_below}
use Rattle.wesl_tree_syntax.specs.Unit.{UnitView, unit_below}
use Rattle.wesl_scope.specs.Strip.{marked}
use Rattle.wesl_scope_occurrences.proofs.Ended.{other_default}

-- the marked ones
abbrev pub picked : {A : Type 0} → List Bool → List A → List A
picked (true ∷ ms) (x ∷ xs) = x ∷ picked ms xs
picked (false ∷ ms) (x ∷ xs) = picked ms xs
picked [] xs = []
picked _ [] = []

pub picked_forest : {A : Type 0} (view : A → Tree) (ms : List Bool) (xs : List A) → forest_of (map view (picked ms xs)) ≡ marked ms (forest_of (map view xs))
picked_forest view [] xs = refl
picked_forest view (true ∷ ms) [] = refl
picked_forest view (false ∷ ms) [] = refl
picked_forest view (true ∷ ms) (x ∷ xs) = ap (λ f. tree (view x).label (view x).children f) (picked_forest view ms xs)
picked_forest view (false ∷ ms) (x ∷ xs) = picked_forest view ms xs

-- among the marked ones, the identifiers stay below
pub marked_below : (n : ℕ) (ms : List Bool) (f : Forest) → forest_below n f ≡ true → forest_below n (marked ms f) ≡ true
marked_below n [] f h = refl
marked_below n (true ∷ ms) end h = refl
marked_below n (false ∷ ms) end h = refl
marked_below n (true ∷ ms) (tree l children others) h =
    let a = and_parts (label_below n l && forest_below n children) (forest_below n others) h in
    let r = marked_below n ms others a.1 in
    let l' = a.0 in
    rw (l', r) refl
marked_below n (false ∷ ms) (tree l children others) h =
    marked_below n ms others (and_parts (label_below n l && forest_below n children) (forest_below n others) h).1

picked_more : {A : Type 0} (ms : List Bool) (xs : List A) (m : Bool) (x : A) → length ms ≡ length xs → picked (ms ++ m ∷ []) (xs ++ x ∷ []) ≡ picked ms xs ++ cond m (x ∷ []) []
picked_more [] [] true x h = refl
picked_more [] [] false x h = refl
picked_more [] (y ∷ ys) m x h = absurd (omega arith)
picked_more (n ∷ ms) [] m x h = absurd (omega arith)
picked_more (true ∷ ms) (y ∷ ys) m x h = ap (λ zs. y ∷ zs) (picked_more ms ys m x (omega arith))
picked_more (false ∷ ms) (y ∷ ys) m x h = picked_more ms ys m x (omega arith)

swap_is : {A : Type 0} (xs : List A) (i j : ℕ) (d : A) → i < length xs → j < length xs → swap xs i j ≡ set (set xs i (get_or xs j d)) j (get_or xs i d)
swap_is [] i j d h k = absurd (omega arith)
swap_is (x ∷ xs) i j d h k = ap (λ a. set (set (x ∷ xs) i a) j (get_or (x ∷ xs) i x)) (other_default (x ∷ xs) j x d k) ∙ ap (λ a. set (set (x ∷ xs) i (get_or (x ∷ xs) j d)) j a) (other_default (x ∷ xs) i x d h)

-- what is done with the declarations before number j
pub record Compacted {A : Type 0} (ms : List Bool) (old now : List A) (next j : ℕ) : Type 0 where
  pub same_length : length now ≡ length old
  pub behind : next ≤ j
  pub front : take next now ≡ picked (take j ms) (take j old)
  pub back : drop j now ≡ drop j old

pub not_begun : {A : Type 0} (ms : List Bool) (xs : List A) → Compacted ms xs xs 0 0
not_begun ms xs = record { same_length = refl; behind = omega arith; front = refl; back = refl }

next_picked : {A : Type 0} (ms : List Bool) (old : List A) (j : ℕ) (d : A) → j < length ms → length ms ≡ length old → picked (take (j + 1) ms) (take (j + 1) old) ≡ picked (take j ms) (take j old) ++ cond (get_or ms j false) (get_or old j d ∷ []) []
next_picked ms old j d h e =
    let l : j < length old = omega arith in
    let one : j + 1 ≡ suc j = omega arith in
    ap (λ k. picked (take k ms) (take k old)) one
    ∙ (ap (λ x. picked x (take (suc j) old)) (take-suc ms j false h)
    ∙ (ap (picked (take j ms ++ get_or ms j false ∷ [])) (take-suc old j d l)
    ∙ picked_more (take j ms) (take j old) (get_or ms j false) (get_or old j d) (length-take-le j ms (omega arith) ∙ sym (length-take-le j old (omega arith)))))

at_back : {A : Type 0} (now old : List A) (j : ℕ) (d : A) → drop j now ≡ drop j old → get_or now j d ≡ get_or old j d
at_back now old j d e =
    let z : j + 0 ≡ j = omega arith in
    ap (λ k. get_or now k d) (sym z) ∙ (sym (get_or-drop j now 0 d) ∙ (ap (λ xs. get_or xs 0 d) e ∙ (get_or-drop j old 0 d ∙ ap (λ k. get_or old k d) z)))

drop_suc : {A : Type 0} (j : ℕ) (xs : List A) → drop 1 (drop j xs) ≡ drop (suc j) xs
drop_suc zero [] = refl
drop_suc zero (x ∷ xs) = refl
drop_suc (suc j) [] = refl
drop_suc (suc j) (x ∷ xs) = drop_suc j xs

drop_one : {A : Type 0} (now old : List A) (j : ℕ) → drop j now ≡ drop j old → drop (j + 1) now ≡ drop (j + 1) old
drop_one now old j e =
    let one : j + 1 ≡ suc j = omega arith in
    ap (λ k. drop k now) one ∙ (sym (drop_suc j now) ∙ (ap (drop 1) e ∙ (drop_suc j old ∙ ap (λ k. drop k old) (sym one))))

pub passed_over : {A : Type 0} (ms : List Bool) (old now : List A) (next j : ℕ) (d : A) → length ms ≡ length old → j < length ms → get_or ms j false ≡ false → Compacted ms old now next j → Compacted ms old now next (j + 1)
passed_over ms old now next j d e h m c = record {
  same_length = c.same_length;
  behind = omega (arith, c.behind);
  front = c.front ∙ sym (next_picked ms old j d h e ∙ (ap (λ t. picked (take j ms) (take j old) ++ cond t (get_or old j d ∷ []) []) m ∙ append-nil (picked (take j ms) (take j old))));
  back = drop_one now old j c.back;
}

-- the element that comes forward
swapped_at : {A : Type 0} (xs : List A) (i j : ℕ) (d : A) → i < length xs → j < length xs → get_or (set (set xs i (get_or xs j d)) j (get_or xs i d)) i d ≡ get_or xs j d
swapped_at xs i j d h k = by (cases_eq i j)
  where
    by : (i ≡ j) ⊎ (i ≢ j) → get_or (set (set xs i (get_or xs j d)) j (get_or xs i d)) i d ≡ get_or xs j d
    by (inl e) =
        subst (λ m. get_or (set (set xs i (get_or xs m d)) m (get_or xs i d)) i d ≡ get_or xs m d) e
        (get_or-set_same (set xs i (get_or xs i d)) i (get_or xs i d) d (let n = length-set xs i (get_or xs i d) in omega arith))
    by (inr ne) = get_or-set_other (set xs i (get_or xs j d)) j i (get_or xs i d) d ne ∙ get_or-set_same xs i (get_or xs j d) d h

pub moved_forward : {A : Type 0} (ms : List Bool) (old now : List A) (next j : ℕ) (d : A) → length ms ≡ length old → j < length ms → get_or ms j false ≡ true → Compacted ms old now next j → Compacted ms old (swap now next j) (next + 1) (j + 1)
moved_forward ms old now next j d e h m c =
    let l : j < length now = omega (arith, c.same_length) in
    let k : next < length now = omega (arith, c.behind) in
    let a = get_or now j d in
    let b = get_or now next d in
    let first = set now next a in
    let is : swap now next j ≡ set first j b = swap_is now next j d k l in
    let len1 : length first ≡ length now = length-set now next a in
    let len2 : length (set first j b) ≡ length now = length-set first j b ∙ len1 in
    let one : next + 1 ≡ suc next = omega arith in
    let front_same : take next (set first j b) ≡ take next now = take-set-le next first j b c.behind ∙ take-set-le next now next a (omega arith) in
    let here : get_or (set first j b) next d ≡ a = swapped_at now next j d k l in
    record {
      same_length = ap length is ∙ (len2 ∙ c.same_length);
      behind = omega (arith, c.behind);
      front =
          ap (take (next + 1)) is
          ∙ (ap (λ n. take n (set first j b)) one
          ∙ (take-suc (set first j b) next d (omega (arith, len2))
          ∙ (ap (λ xs. xs ++ get_or (set first j b) next d ∷ []) (front_same ∙ c.front)
          ∙ (ap (λ x. picked (take j ms) (take j old) ++ x ∷ []) (here ∙ at_back now old j d c.back)
          ∙ sym (next_picked ms old j d h e ∙ ap (λ t. picked (take j ms) (take j old) ++ cond t (get_or old j d ∷ []) []) m)))));
      back =
          ap (drop (j + 1)) is
          ∙ (drop-set-lt (j + 1) first j b (omega arith) ∙ (drop-set-lt (j + 1) now next a (omega (arith, c.behind)) ∙ drop_one now old j c.back));
    }

pub all_compacted : {A : Type 0} (ms : List Bool) (old now : List A) (next j : ℕ) → length ms ≡ length old → length ms ≤ j → Compacted ms old now next j → take next now ≡ picked ms old
all_compacted ms old now next j e h c = c.front ∙ (ap (λ x. picked x (take j old)) (take_all j ms h) ∙ ap (picked ms) (take_all j old (omega arith)))

pub goes_over : {A : Type 0} (ms : List Bool) (old now : List A) (next j : ℕ) → length ms ≡ length old → j < length ms → get_or ms j false ≡ false → Compacted ms old now next j → Compacted ms old now next (j + 1)
goes_over ms [] now next j e h m c = absurd (omega arith)
goes_over ms (x ∷ xs) now next j e h m c = passed_over ms (x ∷ xs) now next j x e h m c

pub goes_forward : {A : Type 0} (ms : List Bool) (old now : List A) (next j : ℕ) → length ms ≡ length old → j < length ms → get_or ms j false ≡ true → Compacted ms old now next j → Compacted ms old (swap now next j) (next + 1) (j + 1)
goes_forward ms [] now next j e h m c = absurd (omega arith)
goes_forward ms (x ∷ xs) now next j e h m c = moved_forward ms (x ∷ xs) now next j x e h m c

-- a module whose declarations are some of those it had
pub stripped_below : (u : UnitView) (ms : List Bool) (d : Tree) → unit_below u ≡ true → d ≡ record { label = u.declarations.label; children = marked ms u.declarations.children } → unit_below (record u { declarations = d }) ≡ true
stripped_below u ms d h e =
    let n = length u.names in
    let a = and_parts (tree_below n u.imports && tree_below n u.directives) (tree_below n u.declarations) h in
    let b = and_parts (label_below n u.declarations.label) (forest_below n u.declarations.children) a.1 in
    let front = a.0 in
    let l = b.0 in
    let f = marked_below n ms u.declarations.children b.1 in
    rw (front, e, l, f) refl
