-- The texts of the escape form.
use Rattle.std.proofs.Common.{◌≡◌, ◌≢◌, ◌<◌, ◌≤◌, ◌+◌, ℕ, zero, suc, List, [], ◌∷◌, ◌++◌, length, map, take, get_or, replicate, Result, Ok, Err, IfOk, refl, ap, sym, ◌∙◌, ◌==◌, arith, append_assoc, length-append, count_by, String, Global, string_bytes, ◌^◌}
use Rattle.std.proofs.lemmas.List.{take_more, append-nil, map-append, replicate-append-replicate, length-replicate}
use Rattle.std.proofs.lemmas.List.Concat.{flat_map-append}
use Rattle.std.proofs.lemmas.List.Elements.{All-nil, All-cons}
use Rattle.std.proofs.lemmas.List.Splits.{length-slice_split}
use Rattle.std.specs.List.{All, flat_map}
use Rattle.std.specs.Fmt.{decimal}
use lib.Chars.{codes}
use Rattle.wesl_tree_names.specs.Path.{Text, Origin, absolute, relative, from_package, origin_view, path_view}
use Rattle.wesl_tree_names.specs.declared.path.PathOrigin.{PathOrigin}
use Rattle.wesl_tree_names.specs.declared.path.PathOrigin.TheVariants.{Absolute, Relative, Package}
use Rattle.wesl_tree_names.specs.declared.path.ModulePath.{ModulePath}
use Rattle.wesl_mangle_forms.specs.Laws.{IsShort, IsShortOrigin, HasShortNames}
use Rattle.wesl_mangle_forms.specs.Escape.{pieces_of, parts_of, from_pieces, from_parts, with_count, escaped_part, escaped_parts, escaped, escaped_origin}
use Rattle.wesl_mangle_forms.proofs.Cuts.{join-append}
use Rattle.wesl_mangle_forms.proofs.Reading.{uncut, unparted, some-escaped}

pub IfOk-to : {A E : Type 0} (P Q : A → Type 0) → ((a : A) → P a → Q a) → (r : Result A E) → IfOk r P → IfOk r Q
IfOk-to P Q f (Ok a) h = f a h
IfOk-to P Q f (Err e) h = h

-- what holds of what was made holds of what is told of it
pub through : {A E F : Type 0} (P : A → Type 0) (r : Result A E) (made : Result A F) → IfOk r (λ x. made ≡ Ok x) → IfOk made P → IfOk r P
through P (Err e) made h p = tt
through P (Ok x) made h p = rw h at p

with_count_one : (ps : List Text) (k : ℕ) → length ps ≡ k + 1 → k ≡ 0 → with_count ps ≡ ps
with_count_one [] k h e = refl
with_count_one (p ∷ []) k h e = refl
with_count_one (p ∷ q ∷ ps) k h e = absurd (omega arith)

with_count_more : (ps : List Text) (k : ℕ) → length ps ≡ k + 1 → k ≢ 0 → from_pieces (with_count ps) ≡ 95 ∷ (decimal k ++ from_pieces ps)
with_count_more [] k h n = absurd (omega arith)
with_count_more (p ∷ []) k h n = absurd (n (omega arith))
with_count_more (p ∷ q ∷ ps) k h n =
    let e : length (q ∷ ps) ≡ k = omega arith in
    ap (λ (m : ℕ). 95 ∷ ((decimal m ++ p) ++ 95 ∷ from_pieces (q ∷ ps))) e ∙ ap (95 ∷◌) (append_assoc (decimal k) p (95 ∷ from_pieces (q ∷ ps)))

pub part-plain : (n : Text) → count_by (λ c. c == 95) n ≡ 0 → from_pieces (escaped_part n) ≡ n
part-plain n h = ap from_pieces (with_count_one (pieces_of n) _ (length-slice_split (λ c. c == 95) n) h) ∙ uncut n

pub part-told : (n : Text) → count_by (λ c. c == 95) n ≢ 0 → from_pieces (escaped_part n) ≡ 95 ∷ (decimal (count_by (λ c. c == 95) n) ++ n)
part-told n h =
    with_count_more (pieces_of n) _ (length-slice_split (λ c. c == 95) n) h ∙ ap (λ (t : Text). 95 ∷ (decimal (count_by (λ c. c == 95) n) ++ t)) (uncut n)

one_part : (ps : List Text) → length ps ≡ 1 → escaped_parts ps ≡ escaped_part (from_parts ps)
one_part [] h = absurd (omega arith)
one_part (p ∷ []) h = refl
one_part (p ∷ q ∷ ps) h = absurd (omega arith)

pub escaped-one : (n : Text) → length (parts_of n) ≡ 1 → escaped n ≡ escaped_part n
escaped-one n h = one_part (parts_of n) h ∙ ap escaped_part (unparted n)

more_parts : (ps : List Text) → 1 < length ps → escaped_parts ps ≡ codes "import" ∷ decimal (length ps) ∷ flat_map escaped_part ps
more_parts [] h = absurd (omega arith)
more_parts (p ∷ []) h = absurd (omega arith)
more_parts (p ∷ q ∷ ps) h = refl

pub escaped-more : (n : Text) → 1 < length (parts_of n) → escaped n ≡ codes "import" ∷ decimal (length (parts_of n)) ∷ flat_map escaped_part (parts_of n)
escaped-more n h = more_parts (parts_of n) h

-- one more name after an underscore
module _ {A : Type 0} (g : A → Text) (f : Text → List Text) where
  pub written-more : (some : (n : Text) → 0 < length (f n)) (xs : List Text) (items : List A) (i : ℕ) (a d : A) → 0 < length xs → i < length items → a ≡ get_or items i d
      → from_pieces (xs ++ flat_map f (map g (take i items))) ++ 95 ∷ from_pieces (f (g a)) ≡ from_pieces (xs ++ flat_map f (map g (take (i + 1) items)))
  written-more some xs items i a d z l e =
      let t : take (i + 1) items ≡ take i items ++ a ∷ [] = take_more items i d l ∙ ap (λ (x : A). take i items ++ x ∷ []) (sym e) in
      let m = ap (λ (ys : List A). flat_map f (map g ys)) t in
      let s = map-append g (take i items) (a ∷ []) in
      let k = flat_map-append f (map g (take i items)) (g a ∷ []) in
      let n = append-nil (f (g a)) in
      let q = length-append xs (flat_map f (map g (take i items))) in
      sym (join-append 95 (xs ++ flat_map f (map g (take i items))) (f (g a)) (omega (arith, q, z)) (some (g a)))
      ∙ ap from_pieces (append_assoc xs (flat_map f (map g (take i items))) (f (g a))
      ∙ ap (λ (ys : List Text). xs ++ ys) (sym (m ∙ ap (flat_map f) s ∙ k ∙ ap (λ (ys : List Text). flat_map f (map g (take i items)) ++ ys) n)))

pub supers-more : (n : ℕ) → 1 ≤ n → from_pieces (replicate n (codes "super")) ++ 95 ∷ codes "super" ≡ from_pieces (replicate (n + 1) (codes "super"))
supers-more n h =
    let l = length-replicate n (codes "super") in
    sym (join-append 95 (replicate n (codes "super")) (codes "super" ∷ []) (omega (arith, h, l)) (omega arith)) ∙ ap from_pieces (replicate-append-replicate n 1 (codes "super"))

pub origin-supers : (n : ℕ) → n ≢ 0 → escaped_origin (relative n) ≡ replicate n (codes "super")
origin-supers zero h = absurd (h refl)
origin-supers (suc n) h = refl

pub some-origin : (o : Origin) → 0 < length (escaped_origin o)
some-origin absolute = omega arith
some-origin (relative zero) = omega arith
some-origin (relative (suc n)) = omega arith
some-origin (from_package name) = some-escaped name

pub with-item : (xs ys : List Text) (i : Text) → 0 < length xs → from_pieces (xs ++ ys) ++ 95 ∷ from_pieces (escaped i) ≡ from_pieces (xs ++ ys ++ escaped i)
with-item xs ys i h = let l = length-append xs ys in sym (join-append 95 (xs ++ ys) (escaped i) (omega (arith, h, l)) (some-escaped i))

pub text_small : (s : String Global) → length (string_bytes s) < 2 ^ 63
text_small s = omega (arith, s.bytes.small, s.bytes.ok.0, s.bytes.ok.1)

-- names of code are short
short-origin : (o : PathOrigin) → IsShortOrigin (origin_view o)
short-origin Absolute = tt
short-origin (Relative n) = tt
short-origin (Package name) = text_small name

short-texts : (xs : List (String Global)) → All IsShort (map string_bytes xs)
short-texts [] = All-nil IsShort
short-texts (x ∷ xs) = All-cons IsShort (string_bytes x) (map string_bytes xs) (text_small x) (short-texts xs)

pub short-names : (p : ModulePath) (i : Text) → IsShort i → HasShortNames (path_view p) i
short-names p i l = (short-origin p.origin, short-texts p.components.items, l)
