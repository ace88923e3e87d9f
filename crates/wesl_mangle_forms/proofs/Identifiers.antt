-- The escape form of identifiers is an identifier.
use Rattle.std.proofs.Common.{◌≡◌, ◌<◌, ◌^◌, ℕ, zero, suc, Bool, true, false, not, cond, ◌&&◌, List, [], ◌∷◌, ◌++◌, length, replicate, refl, ap, sym, ◌∙◌, ◌==◌, arith, length-append, append_assoc, codes}
use Rattle.std.proofs.lemmas.Bool.{and_parts, eqb-true, false≢true, or_parts, not-true}
use Rattle.std.proofs.lemmas.Fmt.{decimal_nonempty}
use Rattle.std.specs.List.{slice_split, onto_first, flat_map, list_any, list_all}
use Rattle.std.specs.Char.{is_ascii_digit}
use Rattle.std.specs.Fmt.{decimal}
use Rattle.std.specs.Str.{bytes_eq}
use Rattle.wesl_tree_names.specs.Path.{Text, Origin, absolute, relative, from_package, Path}
use Rattle.wesl_mangle_forms.specs.Escape.{pieces_of, parts_of, from_pieces, with_count, escaped_part, escaped_parts, escaped, escaped_origin, escaped_item, escape}
use Rattle.wesl_mangle_forms.specs.Identifier.{is_identifier_byte, is_ascii_identifier, begins_with_two_underscores, is_identifier_origin, has_identifiers}
use Rattle.wesl_mangle_forms.proofs.Cuts.{list_all-append, cut_none, clean, cut_clean, cut_some, join_longer}
use Rattle.wesl_mangle_forms.proofs.Reading.{uncut, length-with_count, parts_all, decimal_all, is_line}

-- each byte

abbrev are_bytes : Text → Bool
are_bytes = list_all is_identifier_byte

onto-all : (c : ℕ) (parts : List Text) → is_identifier_byte c ≡ true → list_all are_bytes parts ≡ true → list_all are_bytes (onto_first c parts) ≡ true
onto-all c [] e h = rw e refl
onto-all c (part ∷ parts) e h = rw e h

cut-all-step : (b : Bool) (c : ℕ) (parts : List Text) → is_identifier_byte c ≡ true → list_all are_bytes parts ≡ true → list_all are_bytes (cond b ([] ∷ parts) (onto_first c parts)) ≡ true
cut-all-step true c parts e h = h
cut-all-step false c parts e h = onto-all c parts e h

cut-all : (p : ℕ → Bool) (t : Text) → are_bytes t ≡ true → list_all are_bytes (slice_split p t) ≡ true
cut-all p [] h = refl
cut-all p (c ∷ cs) h = let g = and_parts (is_identifier_byte c) (are_bytes cs) h in cut-all-step (p c) c (slice_split p cs) g.0 (cut-all p cs g.1)

digits-bytes : (ds : Text) → list_all is_ascii_digit ds ≡ true → are_bytes ds ≡ true
digits-bytes [] h = refl
digits-bytes (d ∷ ds) h = let g = and_parts (is_ascii_digit d) (list_all is_ascii_digit ds) h in let b : is_identifier_byte d ≡ true = rw g.0 refl in rw b (digits-bytes ds g.1)

join-all : (ps : List Text) → list_all are_bytes ps ≡ true → are_bytes (from_pieces ps) ≡ true
join-all [] h = refl
join-all (p ∷ []) h = (and_parts (are_bytes p) true h).0
join-all (p ∷ q ∷ ps) h =
    let g = and_parts (are_bytes p) (list_all are_bytes (q ∷ ps)) h in
    list_all-append is_identifier_byte p (95 ∷ from_pieces (q ∷ ps)) g.0 (join-all (q ∷ ps) g.1)

decimal-bytes : (n : ℕ) → n < 2 ^ 64 → are_bytes (decimal n) ≡ true
decimal-bytes n h = digits-bytes (decimal n) (decimal_all n h)

with_count-all : (ps : List Text) → length ps < 2 ^ 64 → list_all are_bytes ps ≡ true → list_all are_bytes (with_count ps) ≡ true
with_count-all [] l h = h
with_count-all (p ∷ []) l h = h
with_count-all (p ∷ q ∷ ps) l h =
    let g = and_parts (are_bytes p) (list_all are_bytes (q ∷ ps)) h in
    rw (list_all-append is_identifier_byte (decimal (length (q ∷ ps))) p (decimal-bytes (length (q ∷ ps)) (omega arith)) g.0) g.1

identifier-bytes : (n : Text) → is_ascii_identifier n ≡ true → are_bytes n ≡ true
identifier-bytes [] h = refl
identifier-bytes (c ∷ cs) h =
    let g = and_parts (not (is_ascii_digit c)) _ h in
    (and_parts (not (bytes_eq (c ∷ cs) (codes "_"))) (are_bytes (c ∷ cs)) g.1).1

part-all : (n : Text) → length (escaped_part n) < 2 ^ 64 → is_ascii_identifier n ≡ true → list_all are_bytes (escaped_part n) ≡ true
part-all n l h = let a = length-with_count (pieces_of n) in with_count-all (pieces_of n) (omega (arith, a, l)) (cut-all is_line n (identifier-bytes n h))

flat-all : (ns : List Text) → length (flat_map escaped_part ns) < 2 ^ 64 → list_all is_ascii_identifier ns ≡ true → list_all are_bytes (flat_map escaped_part ns) ≡ true
flat-all [] l h = refl
flat-all (n ∷ ns) l h =
    let b = length-append (escaped_part n) (flat_map escaped_part ns) in
    let g = and_parts (is_ascii_identifier n) (list_all is_ascii_identifier ns) h in
    list_all-append are_bytes (escaped_part n) (flat_map escaped_part ns) (part-all n (omega (arith, l, b)) g.0) (flat-all ns (omega (arith, l, b)) g.1)

parts-bytes : (ns : List Text) → length (escaped_parts ns) < 2 ^ 64 → list_all is_ascii_identifier ns ≡ true → list_all are_bytes (escaped_parts ns) ≡ true
parts-bytes [] l h = refl
parts-bytes (p ∷ []) l h = part-all p l (and_parts (is_ascii_identifier p) true h).0
parts-bytes (p ∷ q ∷ ns) l h =
    let xs : List Text = p ∷ q ∷ ns in
    let k : length xs < 2 ^ 64 = (let a = parts_all xs in omega (arith, a, l)) in
    rw (decimal-bytes (length xs) k) (flat-all xs (omega arith) h)

origin-bytes : (o : Origin) → length (escaped_origin o) < 2 ^ 64 → is_identifier_origin o ≡ true → list_all are_bytes (escaped_origin o) ≡ true
origin-bytes absolute l h = refl
origin-bytes (relative zero) l h = refl
origin-bytes (relative (suc n)) l h = supers (suc n)
  where
    supers : (k : ℕ) → list_all are_bytes (replicate k (codes "super")) ≡ true
    supers zero = refl
    supers (suc k) = supers k
origin-bytes (from_package n) l h = parts-bytes (parts_of n) l h

-- a name that is one part

slash-step : (b : Bool) (c : ℕ) → (c == 47) ≡ b → is_identifier_byte c ≡ true → (c == 47) ≡ false
slash-step true c e h = let k = eqb-true c 47 e in absurd (false≢true (ap is_identifier_byte (sym k) ∙ h))
slash-step false c e h = e

bytes-no_slash : (t : Text) → are_bytes t ≡ true → list_any (λ c. c == 47) t ≡ false
bytes-no_slash [] h = refl
bytes-no_slash (c ∷ cs) h =
    let g = and_parts (is_identifier_byte c) (are_bytes cs) h in
    let e = slash-step (c == 47) c refl g.0 in
    rw e (bytes-no_slash cs g.1)

identifier-part : (n : Text) → is_ascii_identifier n ≡ true → escaped n ≡ escaped_part n
identifier-part n h = ap escaped_parts (cut_none (λ c. c == 47) n (bytes-no_slash n (identifier-bytes n h)))

identifier-parts : (ns : List Text) → list_all is_ascii_identifier ns ≡ true → flat_map escaped ns ≡ flat_map escaped_part ns
identifier-parts [] h = refl
identifier-parts (n ∷ ns) h =
    let g = and_parts (is_ascii_identifier n) (list_all is_ascii_identifier ns) h in
    ap (λ xs. xs ++ flat_map escaped ns) (identifier-part n g.0) ∙ ap (λ xs. escaped_part n ++ xs) (identifier-parts ns g.1)

item-bytes : (p : Path) (i : Text) → length (escaped_item p i) < 2 ^ 64 → has_identifiers p i ≡ true → list_all are_bytes (escaped_item p i) ≡ true
item-bytes p i l h =
    let g = and_parts (is_identifier_origin p.origin) _ h in
    let k = and_parts (list_all is_ascii_identifier p.components) (is_ascii_identifier i) g.1 in
    let o : List Text = escaped_origin p.origin in
    let cs : List Text = flat_map escaped p.components in
    let a = length-append (o ++ cs) (escaped i) in
    let b = length-append o cs in
    let e = identifier-parts p.components k.0 in
    let f = identifier-part i k.1 in
    let m = ap length e in
    let n = ap length f in
    list_all-append are_bytes (o ++ cs) (escaped i)
    (list_all-append are_bytes o cs (origin-bytes p.origin (omega (arith, l, a, b)) g.0) (ap (list_all are_bytes) e ∙ flat-all p.components (omega (arith, l, a, b, m)) k.0))
    (ap (list_all are_bytes) f ∙ part-all i (omega (arith, l, a, n)) k.1)

-- how it begins: with neither a digit nor an underscore, or with an underscore and a digit

abbrev begins_well : List Text → Bool
begins_well ((c ∷ cs) ∷ ps) = not (is_ascii_digit c) && not (c == 95)
begins_well ([] ∷ (d ∷ ds) ∷ ps) = is_ascii_digit d
begins_well _ = false

digit_no_line : (d : ℕ) → is_ascii_digit d ≡ true → (d == 95) ≡ false
digit_no_line d h = by (d == 95) refl
  where
    by : (b : Bool) → (d == 95) ≡ b → (d == 95) ≡ false
    by true e = absurd (false≢true (ap is_ascii_digit (sym (eqb-true d 95 e)) ∙ h))
    by false e = e

all-three : (a b e : Bool) → a ≡ false → b ≡ false → e ≡ true → (not a && (not b && e)) ≡ true
all-three true b e h k r = absurd (false≢true (sym h))
all-three false true e h k r = absurd (false≢true (sym k))
all-three false false e h k r = r

no-line : (c : ℕ) (t : Text) → (c == 95) ≡ false → bytes_eq (c ∷ t) (codes "_") ≡ false
no-line c [] l = rw l refl
no-line c (e ∷ t) l = rw l refl

no-lines : (c : ℕ) (t : Text) → (c == 95) ≡ false → begins_with_two_underscores (c ∷ t) ≡ false
no-lines c [] l = refl
no-lines c (e ∷ t) l = rw l refl

identifier-text : (c : ℕ) (t : Text) → is_ascii_digit c ≡ false → (c == 95) ≡ false → are_bytes (c ∷ t) ≡ true → (is_ascii_identifier (c ∷ t) ≡ true) × (begins_with_two_underscores (c ∷ t) ≡ false)
identifier-text c t d l h = (all-three (is_ascii_digit c) (bytes_eq (c ∷ t) (codes "_")) (are_bytes (c ∷ t)) d (no-line c t l) h, no-lines c t l)

lined-text : (d : ℕ) (t : Text) → is_ascii_digit d ≡ true → are_bytes (95 ∷ d ∷ t) ≡ true → (is_ascii_identifier (95 ∷ d ∷ t) ≡ true) × (begins_with_two_underscores (95 ∷ d ∷ t) ≡ false)
lined-text d t e h = (h, digit_no_line d e)

begun : (ps : List Text) → begins_well ps ≡ true → are_bytes (from_pieces ps) ≡ true → (is_ascii_identifier (from_pieces ps) ≡ true) × (begins_with_two_underscores (from_pieces ps) ≡ false)
begun [] w h = absurd (false≢true w)
begun ([] ∷ []) w h = absurd (false≢true w)
begun ([] ∷ [] ∷ ps) w h = absurd (false≢true w)
begun ([] ∷ (d ∷ ds) ∷ []) w h = lined-text d ds w h
begun ([] ∷ (d ∷ ds) ∷ q ∷ ps) w h = lined-text d (ds ++ 95 ∷ from_pieces (q ∷ ps)) w h
begun ((c ∷ cs) ∷ []) w h = let g = and_parts (not (is_ascii_digit c)) (not (c == 95)) w in identifier-text c cs (not-true _ g.0) (not-true _ g.1) h
begun ((c ∷ cs) ∷ q ∷ ps) w h = let g = and_parts (not (is_ascii_digit c)) (not (c == 95)) w in identifier-text c (cs ++ 95 ∷ from_pieces (q ∷ ps)) (not-true _ g.0) (not-true _ g.1) h

digits-begin : (ds p : Text) (ps : List Text) → 0 < length ds → list_all is_ascii_digit ds ≡ true → begins_well ([] ∷ (ds ++ p) ∷ ps) ≡ true
digits-begin [] p ps l h = absurd (omega arith)
digits-begin (d ∷ ds) p ps l h = (and_parts (is_ascii_digit d) (list_all is_ascii_digit ds) h).0

with_count-begins : (ps rest : List Text) → length ps < 2 ^ 64 → is_ascii_identifier (from_pieces ps) ≡ true → list_all (clean is_line) ps ≡ true → begins_well (with_count ps ++ rest) ≡ true
with_count-begins [] rest l h k = absurd (false≢true h)
with_count-begins ([] ∷ []) rest l h k = absurd (false≢true h)
with_count-begins ((c ∷ cs) ∷ []) rest l h k =
    let g = and_parts (not (is_ascii_digit c)) _ h in
    let e = not-true _ (and_parts (clean is_line (c ∷ cs)) true k).0 in
    rw (not-true _ g.0, (or_parts (c == 95) (list_any is_line cs) e).0) refl
with_count-begins (p ∷ q ∷ ps) rest l h k =
    let n = length (q ∷ ps) in
    digits-begin (decimal n) p ((q ∷ ps) ++ rest) (decimal_nonempty n (omega arith)) (decimal_all n (omega arith))

part-begins : (n : Text) (rest : List Text) → length (escaped_part n) < 2 ^ 64 → is_ascii_identifier n ≡ true → begins_well (escaped_part n ++ rest) ≡ true
part-begins n rest l h =
    let a = length-with_count (pieces_of n) in
    with_count-begins (pieces_of n) rest (omega (arith, a, l)) (ap is_ascii_identifier (uncut n) ∙ h) (cut_clean is_line n)

parts-begin : (ns rest : List Text) → 0 < length ns → length (escaped_parts ns) < 2 ^ 64 → list_all is_ascii_identifier ns ≡ true → begins_well (escaped_parts ns ++ rest) ≡ true
parts-begin [] rest z l h = absurd (omega arith)
parts-begin (p ∷ []) rest z l h = part-begins p rest l (and_parts (is_ascii_identifier p) true h).0
parts-begin (p ∷ q ∷ ns) rest z l h = refl

origin-begins : (o : Origin) (rest : List Text) → length (escaped_origin o) < 2 ^ 64 → is_identifier_origin o ≡ true → begins_well (escaped_origin o ++ rest) ≡ true
origin-begins absolute rest l h = refl
origin-begins (relative zero) rest l h = refl
origin-begins (relative (suc n)) rest l h = refl
origin-begins (from_package n) rest l h = parts-begin (parts_of n) rest (cut_some (λ c. c == 47) n) l h

pub identifier_form : (p : Path) (i : Text) → length (escape p i) < 2 ^ 63 → has_identifiers p i ≡ true → (is_ascii_identifier (escape p i) ≡ true) × (begins_with_two_underscores (escape p i) ≡ false)
identifier_form p i h r =
    let o : List Text = escaped_origin p.origin in
    let cs : List Text = flat_map escaped p.components in
    let j = join_longer 95 (escaped_item p i) in
    let a = length-append (o ++ cs) (escaped i) in
    let b = length-append o cs in
    let w : begins_well (escaped_item p i) ≡ true =
    ap begins_well (append_assoc o cs (escaped i)) ∙ origin-begins p.origin (cs ++ escaped i) (omega (arith, h, j, a, b)) (and_parts (is_identifier_origin p.origin) _ r).0 in
    begun (escaped_item p i) w (join-all (escaped_item p i) (item-bytes p i (omega (arith, h, j)) r))
