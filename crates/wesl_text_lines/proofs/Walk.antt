-- A place that goes over the characters of a text, and where it comes to.
use Rattle.std.proofs.Common.{◌≡◌, ℕ, suc, ◌+◌, ◌-◌, ◌<◌, ◌≤◌, Bool, true, false, ◌&&◌, cond, List, [], ◌∷◌, ◌++◌, length, get_or, refl, ap, sym, subst, ◌∙◌, arith}
use Rattle.std.specs.Prelude.{count_by, chars, encode_utf8, nat_lt, nat_le, if◌then◌else◌}
use Rattle.std.specs.Char.{len_utf8}
use Rattle.std.specs.Str.{IsUtf8}
use Rattle.std.proofs.lemmas.Bool.{and_from, and_left, and_right, le-leb, le-ltb, leb-false, lt-leb, lt-ltb}
use Rattle.std.proofs.lemmas.List.{nil_from_length}
use Rattle.std.proofs.lemmas.Str.{chars-nil, chars_past_char, length-encode, len_utf8_bounds}
use Rattle.wesl_tree_base.specs.Pieces.{Text}
use Rattle.wesl_text_lines.specs.Lines.{char_ends, column_of, ends_line, line_ends, line_of, line_start_of, line_starts}
use Rattle.wesl_text_lines.specs.Steps.{behind}
use Rattle.wesl_text_lines.specs.declared.place.Place.{Place}
use Rattle.wesl_text_lines.proofs.Counts.{counted, skipped}
use Rattle.wesl_text_lines.proofs.Ends.{count_if, no_chars, no_lines}

-- the place of the first byte
abbrev pub beginning : Place
beginning = record { line = 1; column = 1; line_start = 0 }

-- the place of an offset, from a place at this byte on
abbrev pub walk : ℕ → Place → ℕ → List ℕ → Place
walk offset p at [] = p
walk offset p at (c ∷ cs) = if nat_le (at + len_utf8 c) offset then walk offset (behind p c cs (at + len_utf8 c)) (at + len_utf8 c) cs else p

-- `behind`, where it is known whether a line ends
abbrev moved : Bool → Place → ℕ → Place
moved ends p end = if ends then record { line = suc p.line; column = 1; line_start = end } else record { line = p.line; column = suc p.column; line_start = p.line_start }

-- ---- what the loop does

pub walk_more : (offset : ℕ) (p : Place) (at c : ℕ) (rest next : List ℕ) → IsUtf8 rest → rest ≡ encode_utf8 c ++ next → at + length (encode_utf8 c) ≤ offset → walk offset p at (chars rest) ≡ walk offset (behind p c (chars next) (at + length (encode_utf8 c))) (at + length (encode_utf8 c)) (chars next)
walk_more offset p at c rest next u e l =
    ap (walk offset p at) (chars_past_char rest next c u e)
    ∙ ap (λ n. if nat_le (at + n) offset then walk offset (behind p c (chars next) (at + n)) (at + n) (chars next) else p) (sym (length-encode c))
    ∙ ap (λ t. if t then walk offset (behind p c (chars next) (at + length (encode_utf8 c))) (at + length (encode_utf8 c)) (chars next) else p) (le-leb (at + length (encode_utf8 c)) offset l)

pub walk_stops : (offset : ℕ) (p : Place) (at c : ℕ) (rest next : List ℕ) → IsUtf8 rest → rest ≡ encode_utf8 c ++ next → offset < at + length (encode_utf8 c) → walk offset p at (chars rest) ≡ p
walk_stops offset p at c rest next u e l =
    ap (walk offset p at) (chars_past_char rest next c u e)
    ∙ ap (λ n. if nat_le (at + n) offset then walk offset (behind p c (chars next) (at + n)) (at + n) (chars next) else p) (sym (length-encode c))
    ∙ ap (λ t. if t then walk offset (behind p c (chars next) (at + length (encode_utf8 c))) (at + length (encode_utf8 c)) (chars next) else p) (lt-leb (at + length (encode_utf8 c)) offset l)

pub walk_ends : (offset : ℕ) (p : Place) (at : ℕ) (rest : List ℕ) → length rest ≡ 0 → walk offset p at (chars rest) ≡ p
walk_ends offset p at rest e = ap (λ r. walk offset p at (chars r)) (nil_from_length rest e) ∙ ap (walk offset p at) chars-nil

-- the loop ends where the next character ends behind the offset
pub stops_at : (offset : ℕ) (p w : Place) (at c next_at end : ℕ) (rest next : List ℕ) → IsUtf8 rest → rest ≡ encode_utf8 c ++ next → next_at ≡ at + length (encode_utf8 c) → end ≡ next_at → offset < end → walk offset p at (chars rest) ≡ w → p ≡ w
stops_at offset p w at c next_at end rest next u e ea ee l h = sym (walk_stops offset p at c rest next u e (omega arith)) ∙ h

-- else it goes on behind it
pub goes_on : (offset : ℕ) (p q w : Place) (at c next_at end : ℕ) (rest next shown : List ℕ) → IsUtf8 rest → rest ≡ encode_utf8 c ++ next → next_at ≡ at + length (encode_utf8 c) → end ≡ next_at → shown ≡ next → q ≡ behind p c (chars shown) end → end ≤ offset → walk offset p at (chars rest) ≡ w → walk offset q next_at (chars next) ≡ w
goes_on offset p q w at c next_at end rest next shown u e ea ee es eq l h =
    let moves : q ≡ behind p c (chars next) (at + length (encode_utf8 c)) = eq ∙ ap (λ (s : List ℕ). behind p c (chars s) end) es ∙ ap (behind p c (chars next)) (ee ∙ ea) in
    ap (λ (r : Place). walk offset r next_at (chars next)) moves
    ∙ ap (λ (n : ℕ). walk offset (behind p c (chars next) (at + length (encode_utf8 c))) n (chars next)) ea
    ∙ sym (walk_more offset p at c rest next u e (omega arith)) ∙ h

-- the line and the column are no more than the bytes before the place, and one
moved_within : (b : Bool) (p : Place) (end at next_at : ℕ) → p.line ≤ suc at → p.column ≤ suc at → at < next_at → ((moved b p end).line ≤ suc next_at) × ((moved b p end).column ≤ suc next_at)
moved_within true p end at next_at l c o = (omega arith, omega arith)
moved_within false p end at next_at l c o = (omega arith, omega arith)

pub behind_within : (p q : Place) (at c next_at end : ℕ) (shown : List ℕ) → next_at ≡ at + length (encode_utf8 c) → q ≡ behind p c (chars shown) end → p.line ≤ suc at → p.column ≤ suc at → (q.line ≤ suc next_at) × (q.column ≤ suc next_at)
behind_within p q at c next_at end shown ea eq l k =
    let Within : Place → Type 0 = λ (r : Place). (r.line ≤ suc next_at) × (r.column ≤ suc next_at) in
    let n : 1 ≤ len_utf8 c = (len_utf8_bounds c).0 in
    let w : length (encode_utf8 c) ≡ len_utf8 c = length-encode c in
    subst Within (sym eq) (moved_within (ends_line c (chars shown)) p end at next_at l k (omega arith))

-- ---- where it comes to

-- where the next character ends behind the offset, no line ends up to it
none_passed : (offset at c : ℕ) (cs : List ℕ) → nat_le (at + len_utf8 c) offset ≡ false → count_by (λ b. nat_le b offset) (line_ends at (c ∷ cs)) ≡ 0
none_passed offset at c cs e =
    let l = leb-false (at + len_utf8 c) offset e in
    count_if (λ b. nat_le b offset) (ends_line c cs) (at + len_utf8 c) (line_ends (at + len_utf8 c) cs) e
    ∙ no_lines offset (at + len_utf8 c) cs (omega arith)

-- where it ends up to the offset, the line moves on where a line ends
line_moves : (offset : ℕ) (p : Place) (end : ℕ) (b : Bool) (ends : List ℕ) → nat_le end offset ≡ true → (moved b p end).line + count_by (λ b. nat_le b offset) ends ≡ p.line + count_by (λ b. nat_le b offset) (if b then end ∷ ends else ends)
line_moves offset p end true ends e = let n = counted (λ b. nat_le b offset) end ends e in omega arith
line_moves offset p end false ends e = refl

walk_line : (offset : ℕ) (p : Place) (at : ℕ) (cs : List ℕ) → (walk offset p at cs).line ≡ p.line + count_by (λ b. nat_le b offset) (line_ends at cs)
walk_line offset p at [] = omega arith
walk_line offset p at (c ∷ cs) = by (nat_le (at + len_utf8 c) offset) refl (walk_line offset (behind p c cs (at + len_utf8 c)) (at + len_utf8 c) cs) where
  by : (t : Bool) → nat_le (at + len_utf8 c) offset ≡ t
      → (walk offset (behind p c cs (at + len_utf8 c)) (at + len_utf8 c) cs).line ≡ (behind p c cs (at + len_utf8 c)).line + count_by (λ b. nat_le b offset) (line_ends (at + len_utf8 c) cs)
      → (if t then walk offset (behind p c cs (at + len_utf8 c)) (at + len_utf8 c) cs else p).line ≡ p.line + count_by (λ b. nat_le b offset) (line_ends at (c ∷ cs))
  by true e h = h ∙ line_moves offset p (at + len_utf8 c) (ends_line c cs) (line_ends (at + len_utf8 c) cs) e
  by false e h = let n = none_passed offset at c cs e in omega arith

start_moves : (offset : ℕ) (p : Place) (end : ℕ) (b : Bool) (ends : List ℕ) → nat_le end offset ≡ true → get_or ((moved b p end).line_start ∷ ends) (count_by (λ b. nat_le b offset) ends) 0 ≡ get_or (p.line_start ∷ (if b then end ∷ ends else ends)) (count_by (λ b. nat_le b offset) (if b then end ∷ ends else ends)) 0
start_moves offset p end true ends e = ap (λ n. get_or (p.line_start ∷ end ∷ ends) n 0) (sym (counted (λ b. nat_le b offset) end ends e))
start_moves offset p end false ends e = refl

walk_start : (offset : ℕ) (p : Place) (at : ℕ) (cs : List ℕ) → (walk offset p at cs).line_start ≡ get_or (p.line_start ∷ line_ends at cs) (count_by (λ b. nat_le b offset) (line_ends at cs)) 0
walk_start offset p at [] = refl
walk_start offset p at (c ∷ cs) = by (nat_le (at + len_utf8 c) offset) refl (walk_start offset (behind p c cs (at + len_utf8 c)) (at + len_utf8 c) cs) where
  by : (t : Bool) → nat_le (at + len_utf8 c) offset ≡ t
      → (walk offset (behind p c cs (at + len_utf8 c)) (at + len_utf8 c) cs).line_start ≡ get_or ((behind p c cs (at + len_utf8 c)).line_start ∷ line_ends (at + len_utf8 c) cs) (count_by (λ b. nat_le b offset) (line_ends (at + len_utf8 c) cs)) 0
      → (if t then walk offset (behind p c cs (at + len_utf8 c)) (at + len_utf8 c) cs else p).line_start ≡ get_or (p.line_start ∷ line_ends at (c ∷ cs)) (count_by (λ b. nat_le b offset) (line_ends at (c ∷ cs))) 0
  by true e h = h ∙ start_moves offset p (at + len_utf8 c) (ends_line c cs) (line_ends (at + len_utf8 c) cs) e
  by false e h = ap (λ n. get_or (p.line_start ∷ line_ends at (c ∷ cs)) n 0) (sym (none_passed offset at c cs e))

-- How many of the characters before a byte end behind another byte: none where it is no earlier. The column of a place counts them
-- from its line on.
pub record Counts (k : ℕ → ℕ) (p : Place) (at : ℕ) : Type 0 where
  pub none : (s : ℕ) → at ≤ s → k s ≡ 0
  pub column : p.column ≡ suc (k p.line_start)
  pub within : p.line_start ≤ at

-- the same with the character that ends at a byte
abbrev pub one_more : (ℕ → ℕ) → ℕ → ℕ → ℕ
one_more k end s = k s + cond (nat_lt s end) 1 0

-- whether a byte is before another, as a number
one_before : (s end : ℕ) → s < end → cond {A = ℕ} (nat_lt s end) 1 0 ≡ 1
one_before s end l = let f : Bool → ℕ = λ t. cond t 1 0 in ap f (lt-ltb s end l)

none_before : (s end : ℕ) → end ≤ s → cond {A = ℕ} (nat_lt s end) 1 0 ≡ 0
none_before s end l = let f : Bool → ℕ = λ t. cond t 1 0 in ap f (le-ltb s end l)

none_more : (k : ℕ → ℕ) (p : Place) (at n : ℕ) → Counts k p at → (s : ℕ) → at + n ≤ s → one_more k (at + n) s ≡ 0
none_more k p at n h s o =
    let z : k s ≡ 0 = h.none s (omega arith) in
    let e : cond {A = ℕ} (nat_lt s (at + n)) 1 0 ≡ 0 = none_before s (at + n) o in
    omega arith

counts_on : (k : ℕ → ℕ) (p : Place) (at n : ℕ) (b : Bool) → 1 ≤ n → Counts k p at → Counts (one_more k (at + n)) (moved b p (at + n)) (at + n)
counts_on k p at n true l h = record {
  none = none_more k p at n h;
  column = let z : one_more k (at + n) (at + n) ≡ 0 = none_more k p at n h (at + n) (omega arith) in ap suc (sym z);
  within = omega arith;
}
counts_on k p at n false l h = record {
  none = none_more k p at n h;
  column =
      let w : p.line_start ≤ at = h.within in
      let one : cond {A = ℕ} (nat_lt p.line_start (at + n)) 1 0 ≡ 1 = one_before p.line_start (at + n) (omega arith) in
      let c : p.column ≡ suc (k p.line_start) = h.column in
      omega arith;
  within = let w : p.line_start ≤ at = h.within in omega arith;
}

one_counts : (offset low end : ℕ) (ends : List ℕ) → nat_le end offset ≡ true → cond (nat_lt low end) 1 0 + count_by (λ b. nat_lt low b && nat_le b offset) ends ≡ count_by (λ b. nat_lt low b && nat_le b offset) (end ∷ ends)
one_counts offset low end ends e = by (nat_lt low end) refl where
  by : (t : Bool) → nat_lt low end ≡ t → cond t 1 0 + count_by (λ b. nat_lt low b && nat_le b offset) ends ≡ count_by (λ b. nat_lt low b && nat_le b offset) (end ∷ ends)
  by true g = let n = counted (λ b. nat_lt low b && nat_le b offset) end ends (and_from (nat_lt low end) (nat_le end offset) g e) in omega arith
  by false g = let n = skipped (λ b. nat_lt low b && nat_le b offset) end ends (and_left (nat_lt low end) (nat_le end offset) g) in omega arith

walk_column : (offset : ℕ) (k : ℕ → ℕ) (p : Place) (at : ℕ) (cs : List ℕ) → Counts k p at → (walk offset p at cs).column ≡ suc (k (walk offset p at cs).line_start + count_by (λ b. nat_lt (walk offset p at cs).line_start b && nat_le b offset) (char_ends at cs))
walk_column offset k p at [] h = let c = h.column in omega arith
walk_column offset k p at (c ∷ cs) h = by (nat_le (at + len_utf8 c) offset) refl (walk_column offset (one_more k (at + len_utf8 c)) (behind p c cs (at + len_utf8 c)) (at + len_utf8 c) cs (counts_on k p at (len_utf8 c) (ends_line c cs) (len_utf8_bounds c).0 h)) where
  on : (r : Place) → nat_le (at + len_utf8 c) offset ≡ true → r.column ≡ suc (one_more k (at + len_utf8 c) r.line_start + count_by (λ b. nat_lt r.line_start b && nat_le b offset) (char_ends (at + len_utf8 c) cs)) → r.column ≡ suc (k r.line_start + count_by (λ b. nat_lt r.line_start b && nat_le b offset) (char_ends at (c ∷ cs)))
  on r e g = let n = one_counts offset r.line_start (at + len_utf8 c) (char_ends (at + len_utf8 c) cs) e in omega arith

  stays : nat_le (at + len_utf8 c) offset ≡ false → count_by (λ b. nat_lt p.line_start b && nat_le b offset) (char_ends at (c ∷ cs)) ≡ 0
  stays e = let l = leb-false (at + len_utf8 c) offset e in
      skipped (λ b. nat_lt p.line_start b && nat_le b offset) (at + len_utf8 c) (char_ends (at + len_utf8 c) cs) (and_right (nat_lt p.line_start (at + len_utf8 c)) (nat_le (at + len_utf8 c) offset) e)
      ∙ no_chars p.line_start offset (at + len_utf8 c) cs (omega arith)

  by : (t : Bool) → nat_le (at + len_utf8 c) offset ≡ t
      → (let r : Place = walk offset (behind p c cs (at + len_utf8 c)) (at + len_utf8 c) cs in r.column ≡ suc (one_more k (at + len_utf8 c) r.line_start + count_by (λ b. nat_lt r.line_start b && nat_le b offset) (char_ends (at + len_utf8 c) cs)))
      → (let r : Place = if t then walk offset (behind p c cs (at + len_utf8 c)) (at + len_utf8 c) cs else p in r.column ≡ suc (k r.line_start + count_by (λ b. nat_lt r.line_start b && nat_le b offset) (char_ends at (c ∷ cs))))
  by true e g = on (walk offset (behind p c cs (at + len_utf8 c)) (at + len_utf8 c) cs) e g
  by false e g = let n = stays e in let m = h.column in omega arith

-- ---- from the beginning on

lines_begun : (text : Text) (offset : ℕ) → line_of text offset ≡ suc (count_by (λ b. nat_le b offset) (line_ends 0 (chars text)))
lines_begun text offset = counted (λ b. nat_le b offset) 0 (line_ends 0 (chars text)) (le-leb 0 offset (omega arith))

pub line_is : (text : Text) (offset : ℕ) → (walk offset beginning 0 (chars text)).line ≡ line_of text offset
line_is text offset = let n = lines_begun text offset in let w = walk_line offset beginning 0 (chars text) in omega arith

pub line_start_is : (text : Text) (offset : ℕ) → (walk offset beginning 0 (chars text)).line_start ≡ line_start_of text offset
line_start_is text offset =
    let n : count_by (λ b. nat_le b offset) (line_ends 0 (chars text)) ≡ line_of text offset - 1 = let m = lines_begun text offset in omega arith in
    walk_start offset beginning 0 (chars text) ∙ ap (λ i. get_or (line_starts text) i 0) n

pub column_is : (text : Text) (offset : ℕ) → (walk offset beginning 0 (chars text)).column ≡ column_of text offset
column_is text offset =
    let none : Counts (λ s. 0) beginning 0 = record { none = λ s l. refl; column = refl; within = omega arith } in
    let r : Place = walk offset beginning 0 (chars text) in
    let w : r.column ≡ suc (0 + count_by (λ b. nat_lt r.line_start b && nat_le b offset) (char_ends 0 (chars text))) = walk_column offset (λ s. 0) beginning 0 (chars text) none in
    let z : 0 + count_by (λ b. nat_lt r.line_start b && nat_le b offset) (char_ends 0 (chars text)) ≡ count_by (λ b. nat_lt r.line_start b && nat_le b offset) (char_ends 0 (chars text)) = omega arith in
    w ∙ ap suc z ∙ ap (λ s. suc (count_by (λ b. nat_lt s b && nat_le b offset) (char_ends 0 (chars text)))) (line_start_is text offset)
