-- Paths, compared by what they say.
use Rattle.std.proofs.Common.{◌≡◌, ◌⊎◌, ◌↔◌, ℕ, Bool, true, false, cond, ◌&&◌, ◌||◌, nat_lt, eqb, List, [], ◌∷◌, map, string_bytes, String, Ordering, refl, ap, sym, ◌∙◌, subst, inl, inr, eq-eqb, eqb-true, arith}
use Rattle.std.proofs.lemmas.Bool.{false≢true}
use Rattle.std.proofs.lemmas.Bool.Decides.{nat_tests}
use Rattle.std.proofs.lemmas.Cmp.{nat_cmp_total, nat_list_cmp_total, lists_total, on_total, then_total, tied_itself}
use Rattle.std.proofs.lemmas.Slice.Eq.{bytes_eq-Decides}
use Rattle.std.specs.Cmp.{IsTotalOrder}
use Rattle.std.specs.Cmp.Lexicographic.{slice_cmp, pointwise, pointwise_decides}
use Rattle.std.specs.Ordering.{nat_cmp, ordering_then, ordering_reverse, is_lt, is_eq, on, then_cmp}
use Rattle.std.specs.String.{string_eq, string_cmp}
use Rattle.std.specs.Str.{bytes_eq}
use Rattle.std.specs.declared.cmp.Ordering.TheVariants.{Less, Equal, Greater}
use Rattle.wesl_tree_names.specs.Path.{Text, Origin, absolute, relative, from_package, same_origin, Path, path_view, origin_view}
use Rattle.wesl_tree_names.specs.PathOrder.{path_before, same_path, same_components, list_before, text_before, origin_before}
use Rattle.wesl_tree_names.specs.PathLaws.{path_eq, path_cmp, path_hash, Equality, Order, TotalOrder}
use Rattle.wesl_tree_names.specs.declared.path.ModulePath.{ModulePath}
use Rattle.wesl_tree_names.specs.declared.path.PathOrigin.{PathOrigin}
use Rattle.wesl_tree_names.specs.declared.path.PathOrigin.TheVariants.{Absolute, Relative, Package}
use Rattle.wesl_tree_names.specs.contracts.path.ModulePathHash.TheImpl.Laws.{respects_eq-law}
use Rattle.wesl_tree_names.specs.contracts.path.PathOriginPartialEq.TheImpl as equality
use Rattle.wesl_tree_names.specs.contracts.path.PathOriginOrd.TheImpl as order

-- ---- a test that decides whether two paths are one

both-true : (a b : Bool) → (a && b) ≡ true → (a ≡ true) × (b ≡ true)
both-true true b h = (refl, h)
both-true false b h = absurd (false≢true h)

same_components-pointwise : (xs ys : List Text) → same_components xs ys ≡ pointwise bytes_eq xs ys
same_components-pointwise [] [] = refl
same_components-pointwise [] (y ∷ ys) = refl
same_components-pointwise (x ∷ xs) [] = refl
same_components-pointwise (x ∷ xs) (y ∷ ys) = ap (λ (b : Bool). bytes_eq x y && b) (same_components-pointwise xs ys)

same_components-is : (xs ys : List Text) → same_components xs ys ≡ true → xs ≡ ys
same_components-is xs ys h = (pointwise_decides bytes_eq-Decides xs ys).0 (sym (same_components-pointwise xs ys) ∙ h)

same_components-self : (xs : List Text) → same_components xs xs ≡ true
same_components-self xs = same_components-pointwise xs xs ∙ (pointwise_decides bytes_eq-Decides xs xs).1 refl

same_origin-is : (o r : Origin) → same_origin o r ≡ true → o ≡ r
same_origin-is absolute absolute h = refl
same_origin-is absolute (relative n) h = absurd (false≢true h)
same_origin-is absolute (from_package b) h = absurd (false≢true h)
same_origin-is (relative n) absolute h = absurd (false≢true h)
same_origin-is (relative n) (relative k) h = ap relative (eqb-true n k h)
same_origin-is (relative n) (from_package b) h = absurd (false≢true h)
same_origin-is (from_package a) absolute h = absurd (false≢true h)
same_origin-is (from_package a) (relative n) h = absurd (false≢true h)
same_origin-is (from_package a) (from_package b) h = ap from_package ((bytes_eq-Decides a b).0 h)

same_origin-self : (o : Origin) → same_origin o o ≡ true
same_origin-self absolute = refl
same_origin-self (relative n) = eq-eqb n n refl
same_origin-self (from_package a) = (bytes_eq-Decides a a).1 refl

same_path-is : (p q : Path) → same_path p q ≡ true → p ≡ q
same_path-is p q h =
    let g = both-true (same_origin p.origin q.origin) (same_components p.components q.components) h in
    let e = same_origin-is p.origin q.origin g.0 in
    let f = same_components-is p.components q.components g.1 in
    λ i. record { origin = e i; components = f i }

same_path-self : (p : Path) → same_path p p ≡ true
same_path-self p = λ i. same_origin-self p.origin i && same_components-self p.components i

pub same_path-decides : (p q : Path) → (same_path p q ≡ true) ↔ (p ≡ q)
same_path-decides p q = (same_path-is p q, λ e. subst (λ r. same_path p r ≡ true) e (same_path-self p))

-- ---- `==` of two values

origin_eq-view : (o r : PathOrigin) → (equality.ghosts).eq o r ≡ same_origin (origin_view o) (origin_view r)
origin_eq-view Absolute Absolute = refl
origin_eq-view Absolute (Relative n) = refl
origin_eq-view Absolute (Package b) = refl
origin_eq-view (Relative n) Absolute = refl
origin_eq-view (Relative n) (Relative k) = refl
origin_eq-view (Relative n) (Package b) = refl
origin_eq-view (Package a) Absolute = refl
origin_eq-view (Package a) (Relative n) = refl
origin_eq-view (Package a) (Package b) = refl

components_eq-view : {Z : Type 0} (xs ys : List (String Z)) → pointwise string_eq xs ys ≡ same_components (map string_bytes xs) (map string_bytes ys)
components_eq-view [] [] = refl
components_eq-view [] (y ∷ ys) = refl
components_eq-view (x ∷ xs) [] = refl
components_eq-view (x ∷ xs) (y ∷ ys) = ap (λ (b : Bool). string_eq x y && b) (components_eq-view xs ys)

pub path_eq-view : (p q : ModulePath) → path_eq p q ≡ same_path (path_view p) (path_view q)
path_eq-view p q = λ i. origin_eq-view p.origin q.origin i && components_eq-view p.components.items q.components.items i

pub path_eq-decides : (p q : ModulePath) → (path_eq p q ≡ true) ↔ (path_view p ≡ path_view q)
path_eq-decides p q =
    let d = same_path-decides (path_view p) (path_view q) in
    (λ e. d.0 (sym (path_eq-view p q) ∙ e), λ e. path_eq-view p q ∙ d.1 e)

-- the test of a look-up at a key, told by what the key says
pub path_eq-test : (p : ModulePath) → path_eq p ≡ (λ q. same_path (path_view p) (path_view q))
path_eq-test p = λ i q. path_eq-view p q i

pub one_hash : (p q : ModulePath) → path_view p ≡ path_view q → path_hash p ≡ path_hash q
one_hash p q e = respects_eq-law p q ((path_eq-decides p q).1 e)

pub equality_holds : Equality
equality_holds = record { by_view = path_eq-decides; by_test = path_eq-view; decides = same_path-decides; one_hash = one_hash }

-- ---- the order of what paths say

abbrev rank : Origin → ℕ
rank absolute = 0
rank (relative n) = 1
rank (from_package a) = 2

abbrev number : Origin → ℕ
number absolute = 0
number (relative n) = n
number (from_package a) = 0

abbrev name : Origin → Text
name absolute = []
name (relative n) = []
name (from_package a) = a

abbrev text_compare : Text → Text → Ordering
text_compare = slice_cmp nat_cmp

abbrev origin_compare : Origin → Origin → Ordering
origin_compare = then_cmp (on rank nat_cmp) (then_cmp (on number nat_cmp) (on name text_compare))

abbrev pub path_compare : Path → Path → Ordering
path_compare = then_cmp (on (λ p. p.origin) origin_compare) (on (λ p. p.components) (slice_cmp text_compare))

origin_total : IsTotalOrder origin_compare
origin_total = then_total (on_total rank nat_cmp_total) (then_total (on_total number nat_cmp_total) (on_total name nat_list_cmp_total))

pub path_total : IsTotalOrder path_compare
path_total = then_total (on_total (λ p. p.origin) origin_total) (on_total (λ p. p.components) (lists_total nat_list_cmp_total))

-- ---- the tests, as answers of the order

lt-then : (a b : Ordering) → is_lt (ordering_then a b) ≡ (is_lt a || (is_eq a && is_lt b))
lt-then Less b = refl
lt-then Equal b = refl
lt-then Greater b = refl

eq-then : (a b : Ordering) → is_eq (ordering_then a b) ≡ (is_eq a && is_eq b)
eq-then Less b = refl
eq-then Equal b = refl
eq-then Greater b = refl

then-equal : (a : Ordering) → ordering_then a Equal ≡ a
then-equal Less = refl
then-equal Equal = refl
then-equal Greater = refl

lt-cond : (a b : Bool) → is_lt (cond a Less (cond b Equal Greater)) ≡ a
lt-cond true b = refl
lt-cond false true = refl
lt-cond false false = refl

lt-nat : (n k : ℕ) → nat_lt n k ≡ is_lt (nat_cmp n k)
lt-nat n k = sym (lt-cond (nat_lt n k) (eqb n k))

eq-cond : (a b : Bool) → (a ≡ true → b ≡ true → false ≡ true) → is_eq (cond a Less (cond b Equal Greater)) ≡ b
eq-cond true true h = h refl refl
eq-cond true false h = refl
eq-cond false true h = refl
eq-cond false false h = refl

not-both : (n k : ℕ) → nat_lt n k ≡ true → eqb n k ≡ true → false ≡ true
not-both n k h e = grind (arith, nat_tests)

eq-nat : (n k : ℕ) → eqb n k ≡ is_eq (nat_cmp n k)
eq-nat n k = sym (eq-cond (nat_lt n k) (eqb n k) (not-both n k))

module _ {X : Type 0} (before same : X → X → Bool) (R : X → X → Ordering) (first : (x y : X) → before x y ≡ is_lt (R x y)) (both : (x y : X) → same x y ≡ is_eq (R x y)) where
  before-list : (xs ys : List X) → list_before before same xs ys ≡ is_lt (slice_cmp R xs ys)
  before-list [] [] = refl
  before-list [] (y ∷ ys) = refl
  before-list (x ∷ xs) [] = refl
  before-list (x ∷ xs) (y ∷ ys) = (λ i. first x y i || (both x y i && before-list xs ys i)) ∙ sym (lt-then (R x y) (slice_cmp R xs ys))

  same-list : (xs ys : List X) → pointwise same xs ys ≡ is_eq (slice_cmp R xs ys)
  same-list [] [] = refl
  same-list [] (y ∷ ys) = refl
  same-list (x ∷ xs) [] = refl
  same-list (x ∷ xs) (y ∷ ys) = (λ i. both x y i && same-list xs ys i) ∙ sym (eq-then (R x y) (slice_cmp R xs ys))

text_before-compare : (a b : Text) → text_before a b ≡ is_lt (text_compare a b)
text_before-compare a b = before-list nat_lt (λ x y. eqb x y) nat_cmp lt-nat eq-nat a b

bytes_eq-compare : (a b : Text) → bytes_eq a b ≡ is_eq (text_compare a b)
bytes_eq-compare a b = same-list nat_lt (λ x y. eqb x y) nat_cmp lt-nat eq-nat a b

origin_before-compare : (o r : Origin) → origin_before o r ≡ is_lt (origin_compare o r)
origin_before-compare absolute absolute = refl
origin_before-compare absolute (relative n) = refl
origin_before-compare absolute (from_package b) = refl
origin_before-compare (relative n) absolute = refl
origin_before-compare (relative n) (relative k) = lt-nat n k ∙ ap is_lt (sym (then-equal (nat_cmp n k)))
origin_before-compare (relative n) (from_package b) = refl
origin_before-compare (from_package a) absolute = refl
origin_before-compare (from_package a) (relative n) = refl
origin_before-compare (from_package a) (from_package b) = text_before-compare a b

same_origin-compare : (o r : Origin) → same_origin o r ≡ is_eq (origin_compare o r)
same_origin-compare absolute absolute = refl
same_origin-compare absolute (relative n) = refl
same_origin-compare absolute (from_package b) = refl
same_origin-compare (relative n) absolute = refl
same_origin-compare (relative n) (relative k) = eq-nat n k ∙ ap is_eq (sym (then-equal (nat_cmp n k)))
same_origin-compare (relative n) (from_package b) = refl
same_origin-compare (from_package a) absolute = refl
same_origin-compare (from_package a) (relative n) = refl
same_origin-compare (from_package a) (from_package b) = bytes_eq-compare a b

pub path_before-compare : (p q : Path) → path_before p q ≡ is_lt (path_compare p q)
path_before-compare p q =
    (λ i. origin_before-compare p.origin q.origin i || (same_origin-compare p.origin q.origin i && before-list text_before bytes_eq text_compare text_before-compare bytes_eq-compare p.components q.components i))
    ∙ sym (lt-then (origin_compare p.origin q.origin) (slice_cmp text_compare p.components q.components))

pub same_path-compare : (p q : Path) → same_path p q ≡ is_eq (path_compare p q)
same_path-compare p q =
    (λ i. same_origin-compare p.origin q.origin i && (same_components-pointwise p.components q.components ∙ same-list text_before bytes_eq text_compare text_before-compare bytes_eq-compare p.components q.components) i)
    ∙ sym (eq-then (origin_compare p.origin q.origin) (slice_cmp text_compare p.components q.components))

-- ---- what the tests say, and the laws

lt-less : (a : Ordering) → (is_lt a ≡ true) ↔ (a ≡ Less)
lt-less Less = (λ h. refl, λ h. refl)
lt-less Equal = (λ h. absurd (false≢true h), λ h. ap is_lt h)
lt-less Greater = (λ h. absurd (false≢true h), λ h. ap is_lt h)

eq-equal : (a : Ordering) → (is_eq a ≡ true) ↔ (a ≡ Equal)
eq-equal Less = (λ h. absurd (false≢true h), λ h. ap is_eq h)
eq-equal Equal = (λ h. refl, λ h. refl)
eq-equal Greater = (λ h. absurd (false≢true h), λ h. ap is_eq h)

pub before-less : (p q : Path) → (path_before p q ≡ true) ↔ (path_compare p q ≡ Less)
before-less p q =
    let d = lt-less (path_compare p q) in
    let e = path_before-compare p q in
    (λ h. d.0 (sym e ∙ h), λ h. e ∙ d.1 h)

pub equal-same : (p q : Path) → (path_compare p q ≡ Equal) ↔ (p ≡ q)
equal-same p q =
    let d = eq-equal (path_compare p q) in
    let e = same_path-compare p q in
    let s = same_path-decides p q in
    (λ h. s.0 (e ∙ d.1 h), λ h. d.0 (sym e ∙ s.1 h))

greater-flip : (a b : Ordering) → a ≡ ordering_reverse b → (a ≡ Greater) ↔ (b ≡ Less)
greater-flip a Less e = (λ h. refl, λ h. e)
greater-flip a Equal e = (λ h. absurd (false≢true (ap is_eq (sym h ∙ e))), λ h. absurd (false≢true (ap is_lt h)))
greater-flip a Greater e = (λ h. absurd (false≢true (ap is_lt (sym h ∙ e))), λ h. absurd (false≢true (ap is_lt h)))

pub before-irreflexive : (p : Path) → path_before p p ≡ false
before-irreflexive p = path_before-compare p p ∙ ap is_lt (tied_itself path_total p)

pub before-transitive : (p q r : Path) → path_before p q ≡ true → path_before q r ≡ true → path_before p r ≡ true
before-transitive p q r h k = (before-less p r).1 (path_total.trans p q r ((before-less p q).0 h) ((before-less q r).0 k))

total-by : (p q : Path) (o : Ordering) → path_compare p q ≡ o → (path_before p q ≡ true) ⊎ ((p ≡ q) ⊎ (path_before q p ≡ true))
total-by p q Less e = inl ((before-less p q).1 e)
total-by p q Equal e = inr (inl ((equal-same p q).0 e))
total-by p q Greater e = inr (inr ((before-less q p).1 ((greater-flip (path_compare p q) (path_compare q p) (path_total.antisymm p q)).0 e)))

pub before-total : (p q : Path) → (path_before p q ≡ true) ⊎ ((p ≡ q) ⊎ (path_before q p ≡ true))
before-total p q = total-by p q (path_compare p q) refl

pub total_holds : TotalOrder
total_holds = record { irreflexive = before-irreflexive; transitive = before-transitive; total = before-total }

-- ---- `cmp` of two values

origin_cmp-view : (o r : PathOrigin) → (order.ghosts).cmp o r ≡ origin_compare (origin_view o) (origin_view r)
origin_cmp-view Absolute Absolute = refl
origin_cmp-view Absolute (Relative n) = refl
origin_cmp-view Absolute (Package b) = refl
origin_cmp-view (Relative n) Absolute = refl
origin_cmp-view (Relative n) (Relative k) = sym (then-equal (nat_cmp n k))
origin_cmp-view (Relative n) (Package b) = refl
origin_cmp-view (Package a) Absolute = refl
origin_cmp-view (Package a) (Relative n) = refl
origin_cmp-view (Package a) (Package b) = refl

components_cmp-view : {Z : Type 0} (xs ys : List (String Z)) → slice_cmp string_cmp xs ys ≡ slice_cmp text_compare (map string_bytes xs) (map string_bytes ys)
components_cmp-view [] [] = refl
components_cmp-view [] (y ∷ ys) = refl
components_cmp-view (x ∷ xs) [] = refl
components_cmp-view (x ∷ xs) (y ∷ ys) = ap (ordering_then (string_cmp x y)) (components_cmp-view xs ys)

pub path_cmp-view : (p q : ModulePath) → path_cmp p q ≡ path_compare (path_view p) (path_view q)
path_cmp-view p q = λ i. ordering_then (origin_cmp-view p.origin q.origin i) (components_cmp-view p.components.items q.components.items i)

-- what a sorted list of paths says of two of them
pub path_cmp-lt : (p q : ModulePath) → is_lt (path_cmp p q) ≡ path_before (path_view p) (path_view q)
path_cmp-lt p q = ap is_lt (path_cmp-view p q) ∙ sym (path_before-compare (path_view p) (path_view q))

cmp-is : (p q : ModulePath) (o : Ordering) (P : Type 0) → (path_compare (path_view p) (path_view q) ≡ o) ↔ P → (path_cmp p q ≡ o) ↔ P
cmp-is p q o P h = (λ e. h.0 (sym (path_cmp-view p q) ∙ e), λ k. path_cmp-view p q ∙ h.1 k)

swap : {A B : Type 0} → A ↔ B → B ↔ A
swap h = (h.1, h.0)

along : {A B C : Type 0} → A ↔ B → B ↔ C → A ↔ C
along h k = (λ a. k.0 (h.0 a), λ c. h.1 (k.1 c))

pub order_holds : Order
order_holds = record {
  less = λ p q. cmp-is p q Less _ (swap (before-less (path_view p) (path_view q)));
  equal = λ p q. cmp-is p q Equal _ (equal-same (path_view p) (path_view q));
  greater = λ p q. cmp-is p q Greater _ (along (greater-flip _ _ (path_total.antisymm (path_view p) (path_view q))) (swap (before-less (path_view q) (path_view p))));
}
