-- What pieces are without their places, one by one.
use Rattle.std.proofs.Common.{◌≡◌, ℕ, zero, suc, ◌-◌, ◌<◌, eqb, List, [], ◌∷◌, length, get_or, drop, refl, ap, ◌∙◌, arith}
use Rattle.wesl_text_tokens.specs.Pieces.{Piece, Bit, bits_from, bits_of}

-- where the piece before one ends
abbrev finish_before : ℕ → List Piece → ℕ → Piece → ℕ
finish_before at ps zero d = at
finish_before at ps (suc i) d = (get_or ps i d).finish

bits_from_at : (at : ℕ) (ps : List Piece) (i : ℕ) (d : Piece) → i < length ps → drop i (bits_from at ps) ≡ record { what = (get_or ps i d).what; is_glued = eqb (get_or ps i d).start (finish_before at ps i d) } ∷ bits_from (get_or ps i d).finish (drop (suc i) ps)
bits_from_at at [] i d h = absurd (omega arith)
bits_from_at at (p ∷ ps) zero d h = refl
bits_from_at at (p ∷ ps) (suc zero) d h = bits_from_at p.finish ps zero d (omega arith)
bits_from_at at (p ∷ ps) (suc (suc i)) d h = bits_from_at p.finish ps (suc i) d (omega arith)

-- the bit of a piece that is not the first
pub next_bit : (ps : List Piece) (i : ℕ) (d : Piece) → suc i < length ps → drop (suc i) (bits_of ps) ≡ record { what = (get_or ps (suc i) d).what; is_glued = eqb (get_or ps (suc i) d).start (get_or ps i d).finish } ∷ bits_from (get_or ps (suc i) d).finish (drop (suc (suc i)) ps)
next_bit [] i d h = absurd (omega arith)
next_bit (p ∷ ps) zero d h = bits_from_at p.finish ps zero d (omega arith)
next_bit (p ∷ ps) (suc i) d h = bits_from_at p.finish ps (suc i) d (omega arith)

length_bits_from : (at : ℕ) (ps : List Piece) → length (bits_from at ps) ≡ length ps
length_bits_from at [] = refl
length_bits_from at (p ∷ ps) = ap suc (length_bits_from p.finish ps)

pub length_bits : (ps : List Piece) → length (bits_of ps) ≡ length ps
length_bits [] = refl
length_bits (p ∷ ps) = ap suc (length_bits_from p.finish ps)

what_from : (at : ℕ) (ps : List Piece) (i : ℕ) (d : Piece) (b : Bit) → i < length ps → (get_or (bits_from at ps) i b).what ≡ (get_or ps i d).what
what_from at [] i d b h = absurd (omega arith)
what_from at (p ∷ ps) zero d b h = refl
what_from at (p ∷ ps) (suc i) d b h = what_from p.finish ps i d b (omega arith)

-- what a piece is
pub what_there : (ps : List Piece) (i : ℕ) (d : Piece) (b : Bit) → i < length ps → (get_or (bits_of ps) i b).what ≡ (get_or ps i d).what
what_there [] i d b h = absurd (omega arith)
what_there (p ∷ ps) zero d b h = refl
what_there (p ∷ ps) (suc i) d b h = what_from p.finish ps i d b (omega arith)

glued_from : (at : ℕ) (ps : List Piece) (i : ℕ) (d : Piece) (b : Bit) → i < length ps → (get_or (bits_from at ps) i b).is_glued ≡ eqb (get_or ps i d).start (finish_before at ps i d)
glued_from at [] i d b h = absurd (omega arith)
glued_from at (p ∷ ps) zero d b h = refl
glued_from at (p ∷ ps) (suc zero) d b h = glued_from p.finish ps zero d b (omega arith)
glued_from at (p ∷ ps) (suc (suc i)) d b h = glued_from p.finish ps (suc i) d b (omega arith)

-- whether a piece that is not the first stands right behind the one before it
pub glued_there : (ps : List Piece) (i : ℕ) (d : Piece) (b : Bit) → 0 < i → i < length ps → (get_or (bits_of ps) i b).is_glued ≡ eqb (get_or ps i d).start (get_or ps (i - 1) d).finish
glued_there ps zero d b p h = absurd (omega arith)
glued_there [] (suc i) d b p h = absurd (omega arith)
glued_there (q ∷ ps) (suc zero) d b p h = glued_from q.finish ps zero d b (omega arith)
glued_there (q ∷ ps) (suc (suc i)) d b p h =
    let one_less : suc i ≡ suc (suc i) - 1 = omega arith in
    glued_from q.finish ps (suc i) d b (omega arith) ∙ ap (λ (n : ℕ). eqb (get_or ps (suc i) d).start (get_or (q ∷ ps) n d).finish) one_less
