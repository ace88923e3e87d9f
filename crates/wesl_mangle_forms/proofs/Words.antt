-- The words of the Unicode form stand for the item that they were made of.
use Rattle.std.proofs.Common.{◌≡◌, ◌≢◌, ◌<◌, ◌≤◌, ◌+◌, ℕ, zero, suc, Bool, true, false, not, cond, ◌&&◌, List, [], ◌∷◌, ◌++◌, length, get_or, map, take, replicate, Option, Some, refl, ap, sym, ◌∙◌, ◌==◌, arith, append_assoc, length-append, codes}
use Rattle.std.proofs.lemmas.Bool.{and_parts, false≢true, or_parts, not-true}
use Rattle.std.proofs.lemmas.List.{take_more, map-append, append-nil, length-replicate, replicate-append-replicate}
use Rattle.std.specs.List.{prefix_len, list_all}
use Rattle.std.specs.Str.{bytes_eq}
use Rattle.wesl_tree_names.specs.Path.{Text, Origin, absolute, relative, from_package, Path}
use Rattle.wesl_mangle_forms.specs.Escape.{◌>>=◌, is_super, item_below}
use Rattle.wesl_mangle_forms.specs.Laws.{UnicodeRoundTrip}
use Rattle.wesl_mangle_forms.specs.Unicode.{mark, separator, from_words, origin_words, words_of_item, words_after, words_of, read_origin_words, item_of_words, has_mark, is_own_word, is_own_origin, has_own_words}
use Rattle.wesl_mangle_forms.proofs.Cuts.{first_fails, prefix_len-all, list_all-append}
use Rattle.wesl_mangle_forms.proofs.Reading.{below-item, supers, read_origin-supers}
use Rattle.wesl_mangle_forms.proofs.TypeTexts.{join-last}
use mathlib.Core.Bool.{and-false}

none-of-three : {A : Type 0} (a b c : Bool) (x y z v : A) → (not a && (not b && not c)) ≡ true → cond a x (cond b y (cond c z v)) ≡ v
none-of-three a b c x y z v h =
    let f = and_parts (not a) (not b && not c) h in
    let g = and_parts (not b) (not c) f.1 in
    rw (not-true a f.0, not-true b g.0, not-true c g.1) refl

own-three : (w : Text) → is_own_word w ≡ true → (not (bytes_eq w (codes "package")) && (not (bytes_eq w (codes "self")) && not (is_super w))) ≡ true
own-three w h = (and_parts (not (has_mark w)) _ (and_parts (not (length w == 0)) _ h).1).1

own-unmarked : (w : Text) → is_own_word w ≡ true → has_mark w ≡ false
own-unmarked w h = not-true (has_mark w) (and_parts (not (has_mark w)) _ (and_parts (not (length w == 0)) _ h).1).0

own-super : (w : Text) → is_own_word w ≡ true → not (is_super w) ≡ true
own-super w h = (and_parts (not (bytes_eq w (codes "self"))) (not (is_super w)) (and_parts (not (bytes_eq w (codes "package"))) _ (own-three w h)).1).1

read_origin-words : (o : Origin) (rest : List Text) → is_own_origin o ≡ true → first_fails is_super rest ≡ true → read_origin_words (origin_words o ++ rest) ≡ Some (o, rest)
read_origin-words absolute rest h s = refl
read_origin-words (relative zero) rest h s = refl
read_origin-words (relative (suc n)) rest h s =
    read_origin-supers n (prefix_len is_super (replicate n (codes "super") ++ rest)) rest
    (prefix_len-all is_super (replicate n (codes "super")) rest (supers n) s ∙ length-replicate n (codes "super"))
read_origin-words (from_package w) rest h s =
    none-of-three (bytes_eq w (codes "package")) (bytes_eq w (codes "self")) (is_super w) _ _ _ _ (own-three w h)

first-own : (cs : List Text) (i : Text) → list_all is_own_word cs ≡ true → is_own_word i ≡ true → first_fails is_super (cs ++ i ∷ []) ≡ true
first-own [] i h k = own-super i k
first-own (c ∷ cs) i h k = own-super c (and_parts (is_own_word c) (list_all is_own_word cs) h).0

pub words-step : (r : Option (Origin × List Text)) (o : Origin) (ws : List Text) → r ≡ Some (o, ws) → (r >>= λ x. item_below x.0 x.1) ≡ item_below o ws
words-step r o ws e = rw e refl

words_round_trip : (p : Path) (i : Text) → has_own_words p i ≡ true → item_of_words (words_of_item p i) ≡ Some (p, i)
words_round_trip p i h =
    let g = and_parts (is_own_origin p.origin) _ h in
    let k = and_parts (list_all is_own_word p.components) (is_own_word i) g.1 in
    let ws : List Text = p.components ++ i ∷ [] in
    ap item_of_words (append_assoc (origin_words p.origin) p.components (i ∷ []))
    ∙ words-step (read_origin_words (origin_words p.origin ++ ws)) p.origin ws (read_origin-words p.origin ws g.0 (first-own p.components i k.0 k.1))
    ∙ below-item p.origin p.components i

-- The text of the words, cut again.

two-fail : (a b x : Bool) → ((a && (b && true)) ≡ false) → (a && (b && x)) ≡ false
two-fail false b x h = refl
two-fail true false x h = refl
two-fail true true x h = absurd (false≢true (sym h))

no-cut : (c d : ℕ) (cs : Text) → ((c == 0xcb) && ((d == 0x90) && true)) ≡ false → bytes_eq (take 4 (c ∷ d ∷ cs)) separator ≡ false
no-cut c d cs h = two-fail (c == 0xcb) (d == 0x90) (bytes_eq (take 2 cs) mark) h

cut-word : (w rest : Text) → has_mark w ≡ false → words_after 0 (w ++ (separator ++ rest)) ≡ w ∷ words_after 0 rest
cut-word [] rest h = refl
cut-word (c ∷ []) rest h = rw (and-false (c == 0xcb)) refl
cut-word (c ∷ d ∷ w) rest h =
    let g = or_parts (bytes_eq (take 2 (c ∷ d ∷ w)) mark) (has_mark (d ∷ w)) h in
    rw (no-cut c d (w ++ (separator ++ rest)) g.0, cut-word (d ∷ w) rest g.1) refl

cut-last : (w : Text) → has_mark w ≡ false → words_after 0 w ≡ w ∷ []
cut-last [] h = refl
cut-last (c ∷ []) h = rw (and-false (c == 0xcb)) refl
cut-last (c ∷ d ∷ w) h =
    let g = or_parts (bytes_eq (take 2 (c ∷ d ∷ w)) mark) (has_mark (d ∷ w)) h in
    rw (no-cut c d w g.0, cut-last (d ∷ w) g.1) refl

abbrev is_unmarked : Text → Bool
is_unmarked w = not (has_mark w)

cut-words : (ws : List Text) → 0 < length ws → list_all is_unmarked ws ≡ true → words_of (from_words ws) ≡ ws
cut-words [] l h = absurd (omega arith)
cut-words (w ∷ []) l h = ap (words_after 0) (append-nil w) ∙ cut-last w (not-true _ (and_parts (is_unmarked w) true h).0)
cut-words (w ∷ v ∷ ws) l h =
    let g = and_parts (is_unmarked w) (list_all is_unmarked (v ∷ ws)) h in
    cut-word w (from_words (v ∷ ws)) (not-true _ g.0) ∙ ap (w ∷◌) (cut-words (v ∷ ws) (omega arith) g.1)

supers-unmarked : (n : ℕ) → list_all is_unmarked (replicate n (codes "super")) ≡ true
supers-unmarked zero = refl
supers-unmarked (suc n) = supers-unmarked n

origin-unmarked : (o : Origin) → is_own_origin o ≡ true → list_all is_unmarked (origin_words o) ≡ true
origin-unmarked absolute h = refl
origin-unmarked (relative zero) h = refl
origin-unmarked (relative (suc n)) h = supers-unmarked (suc n)
origin-unmarked (from_package w) h = rw (own-unmarked w h) refl

names-unmarked : (ns : List Text) → list_all is_own_word ns ≡ true → list_all is_unmarked ns ≡ true
names-unmarked [] h = refl
names-unmarked (n ∷ ns) h = let g = and_parts (is_own_word n) (list_all is_own_word ns) h in rw (own-unmarked n g.0) (names-unmarked ns g.1)

pub unicode_round_trip : UnicodeRoundTrip
unicode_round_trip p i h =
    let g = and_parts (is_own_origin p.origin) _ h in
    let k = and_parts (list_all is_own_word p.components) (is_own_word i) g.1 in
    let a = list_all-append is_unmarked (origin_words p.origin) p.components (origin-unmarked p.origin g.0) (names-unmarked p.components k.0) in
    let b : list_all is_unmarked (i ∷ []) ≡ true = rw (own-unmarked i k.1) refl in
    let l = length-append (origin_words p.origin ++ p.components) (i ∷ []) in
    ap item_of_words (cut-words (words_of_item p i) (omega (arith, l)) (list_all-append is_unmarked (origin_words p.origin ++ p.components) (i ∷ []) a b)) ∙ words_round_trip p i h

-- one more word at the end
pub words-last : (ws : List Text) (w : Text) → 0 < length ws → from_words ws ++ (separator ++ w) ≡ from_words (ws ++ w ∷ [])
words-last [] w l = absurd (omega arith)
words-last (x ∷ ws) w l = join-last separator x ws w

pub words-more : {A : Type 0} (f : A → Text) (xs : List Text) (items : List A) (i : ℕ) (a d : A) → 0 < length xs → i < length items → a ≡ get_or items i d
    → from_words (xs ++ map f (take i items)) ++ (separator ++ f a) ≡ from_words (xs ++ map f (take (i + 1) items))
words-more {A} f xs items i a d z l e =
    let t : take (i + 1) items ≡ take i items ++ a ∷ [] = take_more items i d l ∙ ap (λ (x : A). take i items ++ x ∷ []) (sym e) in
    let m : map f (take (i + 1) items) ≡ map f (take i items) ++ f a ∷ [] = ap (map f) t ∙ map-append f (take i items) (a ∷ []) in
    let q = length-append xs (map f (take i items)) in
    words-last (xs ++ map f (take i items)) (f a) (omega (arith, q, z))
    ∙ ap from_words (append_assoc xs (map f (take i items)) (f a ∷ []) ∙ ap (λ (ws : List Text). xs ++ ws) (sym m))

pub supers-word : (n : ℕ) → 1 ≤ n → from_words (replicate n (codes "super")) ++ (separator ++ codes "super") ≡ from_words (replicate (n + 1) (codes "super"))
supers-word n h =
    let l = length-replicate n (codes "super") in
    words-last (replicate n (codes "super")) (codes "super") (omega (arith, h, l)) ∙ ap from_words (replicate-append-replicate n 1 (codes "super"))

pub origin-words-supers : (n : ℕ) → n ≢ 0 → origin_words (relative n) ≡ replicate n (codes "super")
origin-words-supers zero h = absurd (h refl)
origin-words-supers (suc n) h = refl

pub some-words : (o : Origin) → 0 < length (origin_words o)
some-words absolute = omega arith
some-words (relative zero) = omega arith
some-words (relative (suc n)) = omega arith
some-words (from_package name) = omega arith
