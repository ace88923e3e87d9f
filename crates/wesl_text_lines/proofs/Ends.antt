-- The ends of characters and of lines behind a byte.
use Rattle.std.proofs.Common.{◌≡◌, ℕ, zero, suc, ◌+◌, ◌<◌, ◌≤◌, Bool, true, false, ◌&&◌, List, [], ◌∷◌, ◌++◌, length, get_or, refl, ap, sym, ◌∙◌, append_assoc, append-nil, length-append, arith}
use Rattle.std.specs.Prelude.{count_by, chars, encode_utf8, nat_lt, nat_le, if◌then◌else◌}
use Rattle.std.specs.Char.{len_utf8}
use Rattle.std.specs.Str.{IsUtf8}
use Rattle.std.proofs.lemmas.Bool.{and_right, lt-leb}
use Rattle.std.proofs.lemmas.List.{nil_from_length}
use Rattle.std.proofs.lemmas.Str.{chars-nil, chars_past_char, length-encode, len_utf8_bounds}
use Rattle.std.specs.List.Sorted.{IsNonDecreasingBy}
use Rattle.wesl_tree_base.specs.Pieces.{Text}
use Rattle.wesl_text_lines.specs.Lines.{char_ends, ends_line, line_ends, line_starts}
use Rattle.wesl_text_lines.proofs.Counts.{skipped}

-- ---- none behind a byte is before it

pub later : (offset at c : ℕ) → offset ≤ at → nat_le (at + len_utf8 c) offset ≡ false
later offset at c l = let b = (len_utf8_bounds c).0 in lt-leb (at + len_utf8 c) offset (omega arith)

further : (offset at c : ℕ) → offset ≤ at → offset ≤ at + len_utf8 c
further offset at c l = omega arith

pub count_if : (p : ℕ → Bool) (b : Bool) (x : ℕ) (xs : List ℕ) → p x ≡ false → count_by p (if b then x ∷ xs else xs) ≡ count_by p xs
count_if p true x xs e = skipped p x xs e
count_if p false x xs e = refl

pub no_lines : (offset at : ℕ) (cs : List ℕ) → offset ≤ at → count_by (λ b. nat_le b offset) (line_ends at cs) ≡ 0
no_lines offset at [] l = refl
no_lines offset at (c ∷ cs) l =
    count_if (λ b. nat_le b offset) (ends_line c cs) (at + len_utf8 c) (line_ends (at + len_utf8 c) cs) (later offset at c l)
    ∙ no_lines offset (at + len_utf8 c) cs (further offset at c l)

pub no_chars : (low offset at : ℕ) (cs : List ℕ) → offset ≤ at → count_by (λ b. nat_lt low b && nat_le b offset) (char_ends at cs) ≡ 0
no_chars low offset at [] l = refl
no_chars low offset at (c ∷ cs) l =
    skipped (λ b. nat_lt low b && nat_le b offset) (at + len_utf8 c) (char_ends (at + len_utf8 c) cs) (and_right (nat_lt low (at + len_utf8 c)) (nat_le (at + len_utf8 c) offset) (later offset at c l))
    ∙ no_chars low offset (at + len_utf8 c) cs (further offset at c l)

-- ---- lines begin in order

-- each of these is no lower than the one before, the first than this one
abbrev pub Rises : ℕ → List ℕ → Type 0
Rises low [] = Unit {0}
Rises low (x ∷ xs) = (low ≤ x) × Rises x xs

rises_above : (low high : ℕ) (xs : List ℕ) → low ≤ high → Rises high xs → Rises low xs
rises_above low high [] l r = tt
rises_above low high (x ∷ xs) l r = (let h = r.0 in omega arith, r.1)

-- a list that rises behind a byte, with that byte or without it
rises_if : (b : Bool) (at n : ℕ) (xs : List ℕ) → Rises (at + n) xs → Rises at (if b then (at + n) ∷ xs else xs)
rises_if true at n xs r = (omega arith, r)
rises_if false at n xs r = rises_above at (at + n) xs (omega arith) r

pub line_ends_rise : (at : ℕ) (cs : List ℕ) → Rises at (line_ends at cs)
line_ends_rise at [] = tt
line_ends_rise at (c ∷ cs) = rises_if (ends_line c cs) at (len_utf8 c) (line_ends (at + len_utf8 c) cs) (line_ends_rise (at + len_utf8 c) cs)

above_low : (low : ℕ) (xs : List ℕ) (k d : ℕ) → Rises low xs → k < length xs → low ≤ get_or xs k d
above_low low [] k d r h = absurd (omega arith)
above_low low (x ∷ xs) zero d r h = r.0
above_low low (x ∷ xs) (suc k) d r h = let a = above_low x xs k d r.1 (omega arith) in let b = r.0 in omega arith

in_order : (low : ℕ) (xs : List ℕ) (i j d : ℕ) → Rises low xs → i ≤ j → j < length xs → get_or xs i d ≤ get_or xs j d
in_order low [] i j d r l h = absurd (omega arith)
in_order low (x ∷ xs) zero zero d r l h = omega arith
in_order low (x ∷ xs) zero (suc j) d r l h = above_low x xs j d r.1 (omega arith)
in_order low (x ∷ xs) (suc i) zero d r l h = absurd (omega arith)
in_order low (x ∷ xs) (suc i) (suc j) d r l h = in_order x xs i j d r.1 (omega arith) (omega arith)

pub line_starts_rise : (text : Text) → IsNonDecreasingBy (λ b. b) (line_starts text)
line_starts_rise text = λ i j d l h. in_order 0 (line_starts text) i j d (omega arith, line_ends_rise 0 (chars text)) l h

-- ---- one character on

pub line_ends_more : (at c : ℕ) (rest next : List ℕ) → IsUtf8 rest → rest ≡ encode_utf8 c ++ next → line_ends at (chars rest) ≡ (if ends_line c (chars next) then (at + length (encode_utf8 c)) ∷ line_ends (at + length (encode_utf8 c)) (chars next) else line_ends (at + length (encode_utf8 c)) (chars next))
line_ends_more at c rest next u e =
    ap (line_ends at) (chars_past_char rest next c u e)
    ∙ ap (λ n. if ends_line c (chars next) then (at + n) ∷ line_ends (at + n) (chars next) else line_ends (at + n) (chars next)) (sym (length-encode c))

pub line_ends_none : (at : ℕ) (rest : List ℕ) → length rest ≡ 0 → line_ends at (chars rest) ≡ []
line_ends_none at rest e = ap (λ (r : List ℕ). line_ends at (chars r)) (nil_from_length rest e) ∙ ap (line_ends at) chars-nil

pub whole_on : (at c next_at : ℕ) (rest next : List ℕ) → rest ≡ encode_utf8 c ++ next → next_at ≡ at + length (encode_utf8 c) → next_at + length next ≡ at + length rest
whole_on at c next_at rest next e ea = let n : length rest ≡ length (encode_utf8 c) + length next = ap length e ∙ length-append (encode_utf8 c) next in omega arith

-- ---- the starts of lines that are held, and the ends of lines to come

-- a line ends behind the character
pub starts_more : (items pushed w : List ℕ) (at c next_at end : ℕ) (rest next shown : List ℕ) → IsUtf8 rest → rest ≡ encode_utf8 c ++ next → next_at ≡ at + length (encode_utf8 c) → end ≡ next_at → shown ≡ next → ends_line c (chars shown) ≡ true → pushed ≡ items ++ end ∷ [] → items ++ line_ends at (chars rest) ≡ w → pushed ++ line_ends next_at (chars next) ≡ w
starts_more items pushed w at c next_at end rest next shown u e ea ee es t ep h =
    let n : ℕ = at + length (encode_utf8 c) in
    let ends : ends_line c (chars next) ≡ true = sym (ap (λ (s : List ℕ). ends_line c (chars s)) es) ∙ t in
    let more : line_ends at (chars rest) ≡ n ∷ line_ends n (chars next) =
    line_ends_more at c rest next u e ∙ ap (λ (b : Bool). if b then n ∷ line_ends n (chars next) else line_ends n (chars next)) ends in
    ap (λ (xs : List ℕ). xs ++ line_ends next_at (chars next)) (ep ∙ ap (λ (i : ℕ). items ++ i ∷ []) ee)
    ∙ append_assoc items (next_at ∷ []) (line_ends next_at (chars next))
    ∙ ap (λ (i : ℕ). items ++ i ∷ line_ends i (chars next)) ea
    ∙ ap (λ (xs : List ℕ). items ++ xs) (sym more) ∙ h

-- none does
pub starts_stay : (items w : List ℕ) (at c next_at : ℕ) (rest next shown : List ℕ) → IsUtf8 rest → rest ≡ encode_utf8 c ++ next → next_at ≡ at + length (encode_utf8 c) → shown ≡ next → ends_line c (chars shown) ≡ false → items ++ line_ends at (chars rest) ≡ w → items ++ line_ends next_at (chars next) ≡ w
starts_stay items w at c next_at rest next shown u e ea es t h =
    let n : ℕ = at + length (encode_utf8 c) in
    let ends : ends_line c (chars next) ≡ false = sym (ap (λ (s : List ℕ). ends_line c (chars s)) es) ∙ t in
    let more : line_ends at (chars rest) ≡ line_ends n (chars next) =
    line_ends_more at c rest next u e ∙ ap (λ (b : Bool). if b then n ∷ line_ends n (chars next) else line_ends n (chars next)) ends in
    ap (λ (i : ℕ). items ++ line_ends i (chars next)) ea
    ∙ ap (λ (xs : List ℕ). items ++ xs) (sym more) ∙ h

-- the text has ended
pub starts_whole : (items w rest : List ℕ) (at : ℕ) → length rest ≡ 0 → items ++ line_ends at (chars rest) ≡ w → items ≡ w
starts_whole items w rest at z h = sym (append-nil items) ∙ ap (λ (xs : List ℕ). items ++ xs) (sym (line_ends_none at rest z)) ∙ h
