-- What was written in the escape form is read back.
use Rattle.std.proofs.Common.{◌≡◌, ◌<◌, ◌≤◌, ◌^◌, ℕ, zero, suc, Bool, true, false, not, cond, ◌&&◌, ◌||◌, List, [], ◌∷◌, ◌++◌, length, take, drop, replicate, Option, Some, None, option_map, refl, ap, sym, subst, ◌∙◌, ◌==◌, nat_le, arith, length-append, append_assoc}
use Rattle.std.proofs.lemmas.Bool.{and_parts, false≢true, le-leb, ne_eqb, or_parts, not-true}
use Rattle.std.proofs.lemmas.List.{take_at, drop_at, append-nil, length-replicate}
use Rattle.std.proofs.lemmas.List.Concat.{flat_map-append}
use Rattle.std.proofs.lemmas.List.Elements.{All-nil, All-cons, All-head, All-tail, All-push}
use Rattle.std.proofs.lemmas.List.Sums.{count_by-le-length}
use Rattle.std.proofs.lemmas.List.Splits.{join_with_byte-slice_split, length-slice_split}
use Rattle.std.proofs.lemmas.Str.Parse.{IsNumeralModel, numerals_by_value, tells_all_ascii_digits}
use Rattle.std.proofs.lemmas.Fmt.{digits_decimal, digits_value-decimal, decimal_nonempty}
use Rattle.std.specs.List.{All, flat_map, prefix_len, slice_split, list_any, list_all}
use Rattle.std.specs.Char.{is_ascii_digit}
use Rattle.std.specs.Fmt.{decimal}
use Rattle.std.specs.Str.{all_ascii_digits, bytes_eq}
use Rattle.std.specs.Str.Parse.{digits_value}
use lib.Chars.{codes}
use Rattle.wesl_tree_names.specs.Path.{Text, Origin, absolute, relative, from_package, Path}
use Rattle.wesl_mangle_forms.specs.Escape.{◌>>=◌, pieces_of, parts_of, from_pieces, from_parts, with_count, escaped_part, escaped_parts, escaped, escaped_origin, escaped_item, escape, counted, read_name, read_names, read_all_names, read_import, is_super, read_origin, item_below, unescaped, is_word, is_plain, is_plain_origin, is_reversible}
use Rattle.wesl_mangle_forms.specs.Laws.{IsShort, IsShortOrigin, HasShortNames, RoundTrip}
use Rattle.wesl_mangle_forms.proofs.Cuts.{first_fails, prefix_len-all, list_all-append, list_any-append, cut_none, clean, cut_clean, cut_some, cut_join}

-- decimal texts

pub own : IsNumeralModel (λ ds. all_ascii_digits ds ≡ true) (digits_value 10)
own = numerals_by_value _ tells_all_ascii_digits

digits_all : (ds : Text) → all_ascii_digits ds ≡ true → list_all is_ascii_digit ds ≡ true
digits_all [] h = refl
digits_all (d ∷ ds) h = let g = and_parts (is_ascii_digit d) (all_ascii_digits ds) h in rw g.0 (digits_all ds g.1)

pub decimal_all : (n : ℕ) → n < 2 ^ 64 → list_all is_ascii_digit (decimal n) ≡ true
decimal_all n h = digits_all (decimal n) (digits_decimal own n h)

-- a piece that begins with a number and goes on with no digit

counted-by : ℕ → Text → List Text → Option (Text × List Text)
counted-by m q ps =
    let n = digits_value 10 (take m q) in
    cond (not (m == 0) && nat_le n (length ps)) (Some (from_pieces (drop m q ∷ take n ps), drop n ps)) None

counted-is : (ds p : Text) (xs rest : List Text) → 0 < length ds → digits_value 10 ds ≡ length xs
    → counted-by (length ds) (ds ++ p) (xs ++ rest) ≡ Some (from_pieces (p ∷ xs), rest)
unfolding counted-by
counted-is ds p xs rest l v =
    let t : take (length ds) (ds ++ p) ≡ ds = take_at ds p (length ds) refl in
    let d : drop (length ds) (ds ++ p) ≡ p = drop_at ds p (length ds) refl in
    let a : (length ds == 0) ≡ false = ne_eqb (length ds) 0 (λ e. omega (arith, e)) in
    let b : nat_le (length xs) (length (xs ++ rest)) ≡ true = le-leb (length xs) (length (xs ++ rest)) (omega (arith, length-append xs rest)) in
    let g : take (length xs) (xs ++ rest) ≡ xs = take_at xs rest (length xs) refl in
    let r : drop (length xs) (xs ++ rest) ≡ rest = drop_at xs rest (length xs) refl in
    rw (t, d, v, a, b, g, r) refl

pub counted-decimal : (p : Text) (xs rest : List Text) → length xs < 2 ^ 64 → first_fails is_ascii_digit p ≡ true
    → counted (decimal (length xs) ++ p) (xs ++ rest) ≡ Some (from_pieces (p ∷ xs), rest)
unfolding counted-by
counted-decimal p xs rest h f =
    let ds = decimal (length xs) in
    let n : prefix_len is_ascii_digit (ds ++ p) ≡ length ds = prefix_len-all is_ascii_digit ds p (decimal_all (length xs) h) f in
    ap (λ m. counted-by m (ds ++ p) (xs ++ rest)) n
    ∙ counted-is ds p xs rest (decimal_nonempty (length xs) h) (digits_value-decimal own (length xs) h)

-- names

begins_name : Text → Bool
begins_name [] = false
begins_name (c ∷ cs) = not (is_ascii_digit c)

begins-first : (p : Text) (q : Text) (ps : List Text) → begins_name (from_pieces (p ∷ q ∷ ps)) ≡ true → first_fails is_ascii_digit p ≡ true
unfolding begins_name
begins-first [] q ps h = refl
begins-first (c ∷ cs) q ps h = h

read_name-with_count : (ps rest : List Text) → length ps < 2 ^ 64 → begins_name (from_pieces ps) ≡ true → read_name (with_count ps ++ rest) ≡ Some (from_pieces ps, rest)
unfolding begins_name
read_name-with_count [] rest l h = absurd (false≢true h)
read_name-with_count ([] ∷ []) rest l h = absurd (false≢true h)
read_name-with_count ((c ∷ cs) ∷ []) rest l h = refl
read_name-with_count (p ∷ q ∷ ps) rest l h = counted-decimal p (q ∷ ps) rest (omega arith) (begins-first p q ps h)

begins-plain : (n : Text) → is_plain n ≡ true → begins_name n ≡ true
unfolding begins_name
begins-plain [] h = h
begins-plain (c ∷ cs) h = (and_parts (not (is_ascii_digit c)) _ h).0

pub length-with_count : (ps : List Text) → length ps ≤ length (with_count ps)
length-with_count [] = omega arith
length-with_count (p ∷ []) = omega arith
length-with_count (p ∷ q ∷ ps) = omega arith

pub uncut : (n : Text) → from_pieces (pieces_of n) ≡ n
uncut n = join_with_byte-slice_split 95 n

pub unparted : (n : Text) → from_parts (parts_of n) ≡ n
unparted n = join_with_byte-slice_split 47 n

-- how often a short text is cut

pub few-cuts : (p : ℕ → Bool) (n : Text) → IsShort n → length (slice_split p n) < 2 ^ 64
few-cuts p n l = omega (arith, l, length-slice_split p n, count_by-le-length p n)

short-parts : (ps : List Text) → length (from_parts ps) < 2 ^ 63 → All IsShort ps
short-parts [] l = All-nil IsShort
short-parts (p ∷ []) l = All-cons IsShort p [] l (All-nil IsShort)
short-parts (p ∷ q ∷ ps) l = let a = length-append p (47 ∷ from_parts (q ∷ ps)) in
    All-cons IsShort p (q ∷ ps) (omega (arith, l, a)) (short-parts (q ∷ ps) (omega (arith, l, a)))

are-short : (n : Text) → IsShort n → All IsShort (parts_of n)
are-short n l = short-parts (parts_of n) (subst IsShort (sym (unparted n)) l)

pub read_name-part : (n : Text) (rest : List Text) → IsShort n → is_plain n ≡ true → read_name (escaped_part n ++ rest) ≡ Some (n, rest)
read_name-part n rest l h =
    let u = uncut n in
    let b : begins_name (from_pieces (pieces_of n)) ≡ true = subst (λ (t : Text). begins_name t ≡ true) (sym u) (begins-plain n h) in
    read_name-with_count (pieces_of n) rest (few-cuts _ n l) b ∙ ap (λ (t : Text). Some (t, rest)) u

pub some-part : (n : Text) → 0 < length (escaped_part n)
some-part n = let a = length-with_count (pieces_of n) in let b = cut_some (λ c. c == 95) n in omega (arith, a, b)

-- lists of names

pub parts_all : (ns : List Text) → length ns ≤ length (flat_map escaped_part ns)
parts_all [] = omega arith
parts_all (n ∷ ns) =
    let a = some-part n in
    let b = length-append (escaped_part n) (flat_map escaped_part ns) in
    omega (arith, a, b, parts_all ns)

abbrev names_after : ℕ → Text × List Text → Option (List Text × List Text)
names_after k x = do
  y ← read_names k x.1
  Some (x.0 ∷ y.0, y.1)

names-step : (o : Option (Text × List Text)) (k : ℕ) (n : Text) (ps : List Text) (ns rest : List Text) → o ≡ Some (n, ps) → read_names k ps ≡ Some (ns, rest)
    → (o >>= names_after k) ≡ Some (n ∷ ns, rest)
names-step o k n ps ns rest e h = rw (e, h) refl

read_names-parts : (ns rest : List Text) → All IsShort ns → list_all is_plain ns ≡ true → read_names (length ns) (flat_map escaped_part ns ++ rest) ≡ Some (ns, rest)
read_names-parts [] rest l h = refl
read_names-parts (n ∷ ns) rest l h =
    let g = and_parts (is_plain n) (list_all is_plain ns) h in
    let e = append_assoc (escaped_part n) (flat_map escaped_part ns) rest in
    let r : read_name ((escaped_part n ++ flat_map escaped_part ns) ++ rest) ≡ Some (n, flat_map escaped_part ns ++ rest) =
    ap read_name e ∙ read_name-part n (flat_map escaped_part ns ++ rest) (All-head IsShort n ns l) g.0 in
    names-step (read_name ((escaped_part n ++ flat_map escaped_part ns) ++ rest)) (length ns) n (flat_map escaped_part ns ++ rest) ns rest r (read_names-parts ns rest (All-tail IsShort n ns l) g.1)

all-step : (o : Option (Text × List Text)) (most : ℕ) (n : Text) (rest ns : List Text) → o ≡ Some (n, rest) → read_all_names most rest ≡ Some ns
    → (o >>= λ x. read_all_names most x.1 >>= λ ns. Some (x.0 ∷ ns)) ≡ Some (n ∷ ns)
all-step o most n rest ns e h = rw (e, h) refl

all-more : (most : ℕ) (ps : List Text) (n : Text) (rest ns : List Text) → read_name ps ≡ Some (n, rest) → read_all_names most rest ≡ Some ns → read_all_names (suc most) ps ≡ Some (n ∷ ns)
all-more most [] n rest ns e h = cc
all-more most (p ∷ ps) n rest ns e h = all-step (read_name (p ∷ ps)) most n rest ns e h

read_all-parts : (most : ℕ) (ns : List Text) → length ns ≤ most → All IsShort ns → list_all is_plain ns ≡ true → read_all_names most (flat_map escaped_part ns) ≡ Some ns
read_all-parts most [] m l h = refl
read_all-parts zero (n ∷ ns) m l h = absurd (omega arith)
read_all-parts (suc most) (n ∷ ns) m l h =
    let g = and_parts (is_plain n) (list_all is_plain ns) h in
    all-more most (escaped_part n ++ flat_map escaped_part ns) n (flat_map escaped_part ns) ns
    (read_name-part n (flat_map escaped_part ns) (All-head IsShort n ns l) g.0)
    (read_all-parts most ns (omega arith) (All-tail IsShort n ns l) g.1)

pub below-item : (o : Origin) (ns : List Text) (i : Text) → item_below o (ns ++ i ∷ []) ≡ Some (record { origin = o; components = ns }, i)
below-item o [] i = refl
below-item o (n ∷ []) i = refl
below-item o (n ∷ m ∷ ns) i = ap (option_map (λ (x : Path × Text). (record { origin = x.0.origin; components = n ∷ x.0.components }, x.1))) (below-item o (m ∷ ns) i)

-- origins

starts_no_word : List Text → Bool
starts_no_word [] = false
starts_no_word (w ∷ ps) = not (is_word w)

none-of : {A : Type 0} (a b c d : Bool) (x y z w v : A) → (a || (b || (c || d))) ≡ false → cond a x (cond b y (cond c z (cond d w v))) ≡ v
none-of a b c d x y z w v h =
    let f = or_parts a (b || (c || d)) h in
    let g = or_parts b (c || d) f.1 in
    let k = or_parts c d g.1 in
    rw (f.0, g.0, k.0, k.1) refl

read_origin-name : (ps : List Text) → starts_no_word ps ≡ true → read_origin ps ≡ option_map (λ x. (from_package x.0, x.1)) (read_name ps)
unfolding starts_no_word
read_origin-name [] h = absurd (false≢true h)
read_origin-name (w ∷ ps) h = none-of (bytes_eq w (codes "package")) (bytes_eq w (codes "self")) (is_super w) (bytes_eq w (codes "import")) _ _ _ _ _ (not-true (is_word w) h)

super-no_word : (ps : List Text) → starts_no_word ps ≡ true → first_fails is_super ps ≡ true
unfolding starts_no_word
super-no_word [] h = refl
super-no_word (w ∷ ps) h =
    let f = or_parts (bytes_eq w (codes "package")) _ (not-true (is_word w) h) in
    let g = or_parts (bytes_eq w (codes "self")) _ f.1 in
    let k = or_parts (is_super w) _ g.1 in
    ap not k.0

with_count-no_word : (ps rest : List Text) → 0 < length ps → is_word (from_pieces ps) ≡ false → starts_no_word (with_count ps ++ rest) ≡ true
unfolding starts_no_word
with_count-no_word [] rest l h = absurd (omega arith)
with_count-no_word (p ∷ []) rest l h = ap not h
with_count-no_word (p ∷ q ∷ ps) rest l h = refl

plain-no_word : (n : Text) → is_plain n ≡ true → is_word n ≡ false
plain-no_word [] h = absurd (false≢true h)
plain-no_word (c ∷ cs) h =
    let g = and_parts (not (is_ascii_digit c)) _ h in
    let k = and_parts (not (list_any (λ b. b == 47) (c ∷ cs))) (not (is_word (c ∷ cs))) g.1 in
    not-true (is_word (c ∷ cs)) k.1

plain-no_slash : (n : Text) → is_plain n ≡ true → list_any (λ b. b == 47) n ≡ false
plain-no_slash [] h = absurd (false≢true h)
plain-no_slash (c ∷ cs) h =
    let g = and_parts (not (is_ascii_digit c)) _ h in
    let k = and_parts (not (list_any (λ b. b == 47) (c ∷ cs))) (not (is_word (c ∷ cs))) g.1 in
    not-true _ k.0

part-no_word : (n : Text) (rest : List Text) → is_plain n ≡ true → starts_no_word (escaped_part n ++ rest) ≡ true
part-no_word n rest h = with_count-no_word (pieces_of n) rest (cut_some (λ c. c == 95) n) (ap is_word (uncut n) ∙ plain-no_word n h)

escaped-plain : (n : Text) → is_plain n ≡ true → escaped n ≡ escaped_part n
escaped-plain n h = ap escaped_parts (cut_none (λ c. c == 47) n (plain-no_slash n h))

all-plain : (ns : List Text) → list_all is_plain ns ≡ true → flat_map escaped ns ≡ flat_map escaped_part ns
all-plain [] h = refl
all-plain (n ∷ ns) h =
    let g = and_parts (is_plain n) (list_all is_plain ns) h in
    ap (λ xs. xs ++ flat_map escaped ns) (escaped-plain n g.0) ∙ ap (λ xs. escaped_part n ++ xs) (all-plain ns g.1)

pub import-step : (q : Text) (ps : List Text) (ns rest : List Text) → 0 < length q → all_ascii_digits q ≡ true → read_names (digits_value 10 q) ps ≡ Some (ns, rest)
    → read_import (q ∷ ps) ≡ Some (from_package (from_parts ns), rest)
import-step q ps ns rest l a h = let z : (length q == 0) ≡ false = ne_eqb (length q) 0 (λ e. omega (arith, e)) in rw (z, a, h) refl

read_origin-parts : (parts rest : List Text) → 0 < length parts → length parts < 2 ^ 64 → All IsShort parts → list_all is_plain parts ≡ true → read_origin (escaped_parts parts ++ rest) ≡ Some (from_package (from_parts parts), rest)
read_origin-parts [] rest z k l h = absurd (omega arith)
read_origin-parts (p ∷ []) rest z k l h =
    let g = and_parts (is_plain p) true h in
    read_origin-name (escaped_part p ++ rest) (part-no_word p rest g.0) ∙ ap (option_map (λ (x : Text × List Text). (from_package x.0, x.1))) (read_name-part p rest (All-head IsShort p [] l) g.0)
read_origin-parts (p ∷ q ∷ parts) rest z k l h =
    let ns : List Text = p ∷ q ∷ parts in
    let v : digits_value 10 (decimal (length ns)) ≡ length ns = digits_value-decimal own (length ns) k in
    import-step (decimal (length ns)) (flat_map escaped_part ns ++ rest) ns rest (decimal_nonempty (length ns) k) (digits_decimal own (length ns) k)
    (ap (λ m. read_names m (flat_map escaped_part ns ++ rest)) v ∙ read_names-parts ns rest l h)

pub supers : (n : ℕ) → list_all is_super (replicate n (codes "super")) ≡ true
supers zero = refl
supers (suc n) = supers n

abbrev pub super_run : ℕ → List Text → Option (Origin × List Text)
super_run m ps = Some (relative (suc m), drop m ps)

pub read_origin-supers : (n m : ℕ) (rest : List Text) → m ≡ n → super_run m (replicate n (codes "super") ++ rest) ≡ Some (relative (suc n), rest)
read_origin-supers n m rest e =
    rw (e, drop_at (replicate n (codes "super")) rest n (length-replicate n (codes "super"))) refl

read_origin-escaped : (o : Origin) (rest : List Text) → IsShortOrigin o → is_plain_origin o ≡ true → starts_no_word rest ≡ true → read_origin (escaped_origin o ++ rest) ≡ Some (o, rest)
read_origin-escaped absolute rest l h s = refl
read_origin-escaped (relative zero) rest l h s = refl
read_origin-escaped (relative (suc n)) rest l h s =
    read_origin-supers n (prefix_len is_super (replicate n (codes "super") ++ rest)) rest
    (prefix_len-all is_super (replicate n (codes "super")) rest (supers n) (super-no_word rest s) ∙ length-replicate n (codes "super"))
read_origin-escaped (from_package name) rest l h s =
    read_origin-parts (parts_of name) rest (cut_some (λ c. c == 47) name) (few-cuts _ name l) (are-short name l) h ∙ ap (λ (t : Text). Some (from_package t, rest)) (unparted name)

-- the whole

pub whole-step : (o : Option (Origin × List Text)) (a : Origin) (ps ns : List Text) (r : Option (Path × Text)) → o ≡ Some (a, ps) → read_all_names (length ps) ps ≡ Some ns → item_below a ns ≡ r
    → (o >>= λ x. read_all_names (length x.1) x.1 >>= λ ns. item_below x.0 ns) ≡ r
whole-step o a ps ns r e h k = rw (e, h) k

names-of : Path → Text → List Text
names-of p i = p.components ++ i ∷ []

names-plain : (p : Path) (i : Text) → is_reversible p i ≡ true → list_all is_plain (names-of p i) ≡ true
unfolding names-of
names-plain p i h =
    let g = and_parts (is_plain_origin p.origin) _ h in
    let k = and_parts (list_all is_plain p.components) (is_plain i) g.1 in
    list_all-append is_plain p.components (i ∷ []) k.0 (ap (λ (b : Bool). b && true) k.1)

item-pieces : (p : Path) (i : Text) → is_reversible p i ≡ true → escaped_item p i ≡ escaped_origin p.origin ++ flat_map escaped_part (names-of p i)
unfolding names-of
item-pieces p i h =
    let g = and_parts (is_plain_origin p.origin) _ h in
    let k = and_parts (list_all is_plain p.components) (is_plain i) g.1 in
    let e : flat_map escaped_part (p.components ++ i ∷ []) ≡ flat_map escaped_part p.components ++ escaped_part i =
    flat_map-append escaped_part p.components (i ∷ []) ∙ ap (λ xs. flat_map escaped_part p.components ++ xs) (append-nil (escaped_part i)) in
    rw (all-plain p.components k.0, escaped-plain i k.1, e) (append_assoc (escaped_origin p.origin) (flat_map escaped_part p.components) (escaped_part i))

first-name : (ns : List Text) (i : Text) → list_all is_plain (ns ++ i ∷ []) ≡ true → starts_no_word (flat_map escaped_part (ns ++ i ∷ [])) ≡ true
first-name [] i h = part-no_word i [] (and_parts (is_plain i) true h).0
first-name (n ∷ ns) i h = part-no_word n (flat_map escaped_part (ns ++ i ∷ [])) (and_parts (is_plain n) _ h).0

unescaped-item : (p : Path) (i : Text) → HasShortNames p i → is_reversible p i ≡ true → unescaped (escaped_item p i) ≡ Some (p, i)
unfolding names-of
unescaped-item p i l h =
    let ns : List Text = names-of p i in
    let ps : List Text = flat_map escaped_part ns in
    let e = item-pieces p i h in
    let q = names-plain p i h in
    ap unescaped e
    ∙ whole-step (read_origin (escaped_origin p.origin ++ ps)) p.origin ps ns (Some (p, i))
    (read_origin-escaped p.origin ps l.0 (and_parts (is_plain_origin p.origin) _ h).0 (first-name p.components i q))
    (read_all-parts (length ps) ns (parts_all ns) (All-push IsShort p.components i l.1 l.2) q)
    (below-item p.origin p.components i)

-- what is written has no underscore in a piece

abbrev pub is_line : ℕ → Bool
is_line c = c == 95

digits_clean : (ds : Text) → all_ascii_digits ds ≡ true → list_any is_line ds ≡ false
digits_clean [] h = refl
digits_clean (c ∷ cs) h =
    let g = tells_all_ascii_digits.parts c cs h in
    let e : (c == 95) ≡ false = ne_eqb c 95 (λ e. omega (arith, e, g.0)) in
    rw e (digits_clean cs g.1)

with_count-clean : (ps : List Text) → length ps < 2 ^ 64 → list_all (clean is_line) ps ≡ true → list_all (clean is_line) (with_count ps) ≡ true
with_count-clean [] l h = refl
with_count-clean (p ∷ []) l h = h
with_count-clean (p ∷ q ∷ ps) l h =
    let g = and_parts (clean is_line p) (list_all (clean is_line) (q ∷ ps)) h in
    let k : length (q ∷ ps) < 2 ^ 64 = omega arith in
    let d : list_any is_line (decimal (length (q ∷ ps)) ++ p) ≡ false =
    list_any-append is_line (decimal (length (q ∷ ps))) p (digits_clean (decimal (length (q ∷ ps))) (digits_decimal own (length (q ∷ ps)) k)) (not-true _ g.0) in
    rw d g.1

part-clean : (n : Text) → IsShort n → list_all (clean is_line) (escaped_part n) ≡ true
part-clean n l = with_count-clean (pieces_of n) (few-cuts _ n l) (cut_clean is_line n)

flat-clean : (ns : List Text) → All IsShort ns → list_all (clean is_line) (flat_map escaped_part ns) ≡ true
flat-clean [] l = refl
flat-clean (n ∷ ns) l =
    list_all-append (clean is_line) (escaped_part n) (flat_map escaped_part ns) (part-clean n (All-head IsShort n ns l)) (flat-clean ns (All-tail IsShort n ns l))

parts-clean : (ns : List Text) → length ns < 2 ^ 64 → All IsShort ns → list_all (clean is_line) (escaped_parts ns) ≡ true
parts-clean [] k l = refl
parts-clean (p ∷ []) k l = part-clean p (All-head IsShort p [] l)
parts-clean (p ∷ q ∷ ns) k l =
    let xs : List Text = p ∷ q ∷ ns in
    let d : list_any is_line (decimal (length xs)) ≡ false = digits_clean (decimal (length xs)) (digits_decimal own (length xs) k) in
    rw d (flat-clean xs l)

name-clean : (n : Text) → IsShort n → list_all (clean is_line) (escaped n) ≡ true
name-clean n l = parts-clean (parts_of n) (few-cuts _ n l) (are-short n l)

supers-clean : (n : ℕ) → list_all (clean is_line) (replicate n (codes "super")) ≡ true
supers-clean zero = refl
supers-clean (suc n) = supers-clean n

origin-clean : (o : Origin) → IsShortOrigin o → list_all (clean is_line) (escaped_origin o) ≡ true
origin-clean absolute l = refl
origin-clean (relative zero) l = refl
origin-clean (relative (suc n)) l = supers-clean (suc n)
origin-clean (from_package name) l = name-clean name l

several-clean : (ns : List Text) → All IsShort ns → list_all (clean is_line) (flat_map escaped ns) ≡ true
several-clean [] l = refl
several-clean (n ∷ ns) l =
    list_all-append (clean is_line) (escaped n) (flat_map escaped ns) (name-clean n (All-head IsShort n ns l)) (several-clean ns (All-tail IsShort n ns l))

some-parts : (ns : List Text) → 0 < length ns → 0 < length (escaped_parts ns)
some-parts [] l = absurd (omega arith)
some-parts (p ∷ []) l = some-part p
some-parts (p ∷ q ∷ ns) l = omega arith

pub some-escaped : (n : Text) → 0 < length (escaped n)
some-escaped n = some-parts (parts_of n) (cut_some (λ c. c == 47) n)

-- the pieces of what is written are those that were joined
pieces-escape : (p : Path) (i : Text) → HasShortNames p i → pieces_of (escape p i) ≡ escaped_item p i
pieces-escape p i h =
    let o : List Text = escaped_origin p.origin in
    let cs : List Text = flat_map escaped p.components in
    let x : List Text = escaped i in
    let a = length-append (o ++ cs) x in
    let n = some-escaped i in
    cut_join 95 is_line (escaped_item p i) refl (omega (arith, n, a))
    (list_all-append (clean is_line) (o ++ cs) x
    (list_all-append (clean is_line) o cs (origin-clean p.origin h.0) (several-clean p.components h.1))
    (name-clean i h.2))

pub round_trip : RoundTrip
round_trip p i h r = ap unescaped (pieces-escape p i h) ∙ unescaped-item p i h r
