-- A counted piece: its digits, and the pieces that they count.
use Rattle.std.proofs.Common.{◌≡◌, ◌<◌, ◌≤◌, ◌+◌, ◌^◌, ℕ, zero, suc, Bool, true, false, not, cond, ◌&&◌, List, [], ◌∷◌, ◌++◌, length, map, take, drop, get_or, Some, None, Ok, Err, refl, ap, sym, ◌∙◌, ◌==◌, nat_le, arith, subst}
use Rattle.std.proofs.lemmas.Bool.{ne_eqb, le-leb, leb-true, eqb-false, not-true}
use Rattle.std.proofs.lemmas.List.{take_more, map-append, get_or-take, length-map, take-map}
use Rattle.std.proofs.lemmas.List.Sums.{prefix_len_passes, prefix_len-le-length}
use Rattle.std.proofs.lemmas.List.Folds.{length-prefix_len}
use Rattle.std.proofs.lemmas.Str.{IsCharBoundary-start, IsCharBoundary-after_ascii}
use Rattle.std.proofs.lemmas.Str.Parse.{IsNumeralModel, numerals_by_value, parse_digits, tells_by_index, tells_all_ascii_digits}
use Rattle.std.specs.List.{prefix_len}
use Rattle.std.specs.Char.{is_ascii_digit}
use Rattle.std.specs.Int.{IsInRange}
use Rattle.std.specs.Str.{IsUtf8, IsCharBoundary}
use Rattle.std.specs.Str.Parse.{digits_value, ParsesUnsigned}
use denote.Ref.{Bor}
use Rattle.wesl_tree_names.specs.Path.{Text}
use Rattle.wesl_mangle_forms.specs.Escape.{from_pieces, counted}
use Rattle.wesl_tree_base.specs.Borrowed.{texts}
use Rattle.wesl_mangle_forms.proofs.Cuts.{join-append}

pub joined-more : {A : Type 0} (g : A → Text) (p : Text) (items : List A) (i : ℕ) (a d : A) → i < length items → a ≡ get_or items i d
    → from_pieces (p ∷ map g (take i items)) ++ 95 ∷ g a ≡ from_pieces (p ∷ map g (take (i + 1) items))
joined-more {A} g p items i a d l e =
    let t : take (i + 1) items ≡ take i items ++ a ∷ [] = take_more items i d l ∙ ap (λ (x : A). take i items ++ x ∷ []) (sym e) in
    sym (join-append 95 (p ∷ map g (take i items)) (g a ∷ []) (omega arith) (omega arith))
    ∙ ap (λ (ys : List Text). from_pieces (p ∷ ys)) (sym (ap (map g) t ∙ map-append g (take i items) (a ∷ [])))

digit_range : (c : ℕ) → is_ascii_digit c ≡ true → IsInRange 48 57 c
digit_range c h = (tells_all_ascii_digits.parts c [] (ap (λ (b : Bool). b && true) h)).0

boundary_at : (bs : Text) (k : ℕ) → IsUtf8 bs → k ≡ prefix_len is_ascii_digit bs → IsCharBoundary bs k
boundary_at bs zero u e = IsCharBoundary-start bs u
boundary_at bs (suc k) u e =
    let l = prefix_len-le-length is_ascii_digit bs in
    let d = digit_range (get_or bs k 0) (prefix_len_passes is_ascii_digit bs k 0 (omega (arith, e))) in
    subst (IsCharBoundary bs) (omega arith) (IsCharBoundary-after_ascii bs k u (omega (arith, e, l)) (omega (arith, d.1)))

-- the text may be cut after its digits
pub digits_boundary : (bs : Text) → IsUtf8 bs → IsCharBoundary bs (prefix_len is_ascii_digit bs)
digits_boundary bs u = boundary_at bs (prefix_len is_ascii_digit bs) u refl

-- by index, each of these bytes is a digit
pub by_index : IsNumeralModel (λ ds. (i : ℕ) → i < length ds → IsInRange 48 57 (get_or ds i 0)) (digits_value 10)
by_index = numerals_by_value _ tells_by_index

pub digits_in : (q : Text) (i : ℕ) → i < length (take (prefix_len is_ascii_digit q) q) → IsInRange 48 57 (get_or (take (prefix_len is_ascii_digit q) q) i 0)
digits_in q i h =
    let k = prefix_len is_ascii_digit q in
    let l : i < k = omega (arith, h, length-prefix_len is_ascii_digit q) in
    subst (IsInRange 48 57) (sym (get_or-take k q i 0 l)) (digit_range (get_or q i 0) (prefix_len_passes is_ascii_digit q i 0 l))

neither : {A : Type 0} (a b : Bool) (x : A) → (a ≡ true → b ≡ true → ⊥) → cond (a && b) (Some x) None ≡ None
neither true true x h = absurd (h refl refl)
neither true false x h = refl
neither false b x h = refl

-- no count, or one that is too high
pub counted-none : (q : Text) (ps : List Text) → (0 < length (take (prefix_len is_ascii_digit q) q) → digits_value 10 (take (prefix_len is_ascii_digit q) q) ≤ length ps → ⊥) → counted q ps ≡ None
counted-none q ps h =
    let k = prefix_len is_ascii_digit q in
    neither (not (k == 0)) (nat_le (digits_value 10 (take k q)) (length ps)) _
    (λ a b. h (let z = eqb-false k 0 (not-true (k == 0) a) in omega (arith, z, length-prefix_len is_ascii_digit q)) (leb-true _ _ b))

pub counted-some : (q : Text) (ps : List Text) (n : ℕ) → 0 < length (take (prefix_len is_ascii_digit q) q) → n ≡ digits_value 10 (take (prefix_len is_ascii_digit q) q) → n ≤ length ps
    → counted q ps ≡ Some (from_pieces (drop (prefix_len is_ascii_digit q) q ∷ take n ps), drop n ps)
counted-some q ps n z e l =
    let k = prefix_len is_ascii_digit q in
    let a : (k == 0) ≡ false = ne_eqb k 0 (λ w. omega (arith, w, z, length-prefix_len is_ascii_digit q)) in
    let b : nat_le n (length ps) ≡ true = le-leb n (length ps) l in
    rw (a, ← e, b) refl

digits_is : (q d : Text) (k : ℕ) → d ≡ take k q → k ≡ prefix_len is_ascii_digit q → d ≡ take (prefix_len is_ascii_digit q) q
digits_is q d k e f = e ∙ ap (λ (m : ℕ). take m q) f

pub parse_fails : {E : Type 0} (q d : Text) (k : ℕ) (err : E) (ps : List Text) → d ≡ take k q → k ≡ prefix_len is_ascii_digit q → ParsesUnsigned {E = E} 64 10 d (Err err) → length ps < 2 ^ 64 → counted q ps ≡ None
parse_fails {E} q d k err ps e f h l =
    let ds = take (prefix_len is_ascii_digit q) q in
    let g : ParsesUnsigned {E = E} 64 10 ds (Err err) = subst (λ (t : Text). ParsesUnsigned {E = E} 64 10 t (Err err)) (digits_is q d k e f) h in
    let no = parse_digits by_index 64 ds (Err err) g (digits_in q) in
    counted-none q ps (λ z v. no (z, omega (arith, v, l)))

pub parse_count : (E : Type 0) (q d : Text) (k n : ℕ) → d ≡ take k q → k ≡ prefix_len is_ascii_digit q → ParsesUnsigned {E = E} 64 10 d (Ok n)
    → (0 < length (take (prefix_len is_ascii_digit q) q)) × (n ≡ digits_value 10 (take (prefix_len is_ascii_digit q) q))
parse_count E q d k n e f h =
    let ds = take (prefix_len is_ascii_digit q) q in
    let g : ParsesUnsigned {E = E} 64 10 ds (Ok n) = subst (λ (t : Text). ParsesUnsigned {E = E} 64 10 t (Ok n)) (digits_is q d k e f) h in
    let yes = parse_digits by_index {E = E} 64 ds (Ok n) g (digits_in q) in
    (yes.0.0, yes.1)

pub count_too_high : (E : Type 0) (q d : Text) (k n : ℕ) (ps : List Text) → d ≡ take k q → k ≡ prefix_len is_ascii_digit q → ParsesUnsigned {E = E} 64 10 d (Ok n) → length ps < n → counted q ps ≡ None
count_too_high E q d k n ps e f h l = let y = parse_count E q d k n e f h in counted-none q ps (λ z v. omega (arith, v, l, y.1))

pub counted-read : (E : Type 0) (q d front name : Text) (k n : ℕ) (rest more : List (Bor Text)) → d ≡ take k q → k ≡ prefix_len is_ascii_digit q → ParsesUnsigned {E = E} 64 10 d (Ok n)
    → front ≡ drop k q → more ≡ take n rest → n ≤ length rest → name ≡ from_pieces (front ∷ texts more) → counted q (texts rest) ≡ Some (name, drop n (texts rest))
counted-read E q d front name k n rest more e f h fr mo l na =
    let y = parse_count E q d k n e f h in
    let m = length-map rest (λ (x : Bor Text). x.now) in
    let a : front ≡ drop (prefix_len is_ascii_digit q) q = fr ∙ ap (λ (j : ℕ). drop j q) f in
    let b : texts more ≡ take n (texts rest) = ap texts mo ∙ sym (take-map (λ (x : Bor Text). x.now) n rest) in
    let w : name ≡ from_pieces (drop (prefix_len is_ascii_digit q) q ∷ take n (texts rest)) = na ∙ ap (λ (t : Text). from_pieces (t ∷ texts more)) a ∙ ap (λ (ts : List Text). from_pieces (drop (prefix_len is_ascii_digit q) q ∷ ts)) b in
    counted-some q (texts rest) n y.0 y.1 (omega (arith, l, m)) ∙ sym (ap (λ (t : Text). Some (t, drop n (texts rest))) w)
