-- How pieces are joined into tokens, piece by piece.
use Rattle.std.specs.Prelude.{◌≡◌, ℕ, suc, ◌-◌, ◌<◌, Bool, false, List, [], ◌++◌, length, drop, get_or, reverse, Option, Some, None}
use Rattle.wesl_text_tokens.specs.declared.joining.Held.{Held as HeldSymbol}
use Rattle.wesl_text_tokens.specs.Characters.{is_one_of}
use Rattle.wesl_text_tokens.specs.Pieces.{a_sign, Piece, Bit, bits_of}
use Rattle.wesl_text_tokens.specs.Symbols.{symbol_text}
use Rattle.wesl_text_tokens.specs.Tokens.{Made, Held, Joined, let_go, Placed, placed_from}

-- the piece with a number, without its place
abbrev pub bit_at : List Piece → ℕ → Bit
bit_at ps i = get_or (bits_of ps) i (record { what = a_sign []; is_glued = false })

-- what is held before the piece with a number, and the first piece of it
abbrev pub held_at : ℕ → Option HeldSymbol → Option Held
held_at i None = None
held_at i (Some h) = Some (record { text = symbol_text h.symbol; count = i - h.first })

abbrev pub first_held : ℕ → Option HeldSymbol → ℕ
first_held i None = i
first_held i (Some h) = h.first

-- what is held begins before the piece with a number
abbrev pub IsHeldBefore : ℕ → Option HeldSymbol → Type 0
IsHeldBefore i None = Unit {0}
IsHeldBefore i (Some h) = h.first < i

-- behind tokens stand those that a piece ends, and what is held then is held
pub record JoinsTo (ps : List Piece) (i : ℕ) (before : List Placed) (h : Option HeldSymbol) (j : Joined) (after : List Placed) (k : Option HeldSymbol) : Type 0 where
  pub held : held_at (suc i) k ≡ j.held
  pub done : (ms : List Made) → after ++ placed_from ms (drop (first_held (suc i) k) ps) ≡ before ++ placed_from (j.done ++ ms) (drop (first_held i h) ps)

-- behind tokens stands the one that was held before the piece with a number
abbrev pub LetsGo : List Piece → ℕ → List Placed → Option HeldSymbol → List Placed → Type 0
LetsGo ps i before h after = (ms : List Made) → after ++ placed_from ms (drop i ps) ≡ before ++ placed_from (let_go (held_at i h) ++ ms) (drop (first_held i h) ps)

-- flags that tell which places are among these, the newest last
abbrev pub FlagsOf : List ℕ → List Bool → Type 0
FlagsOf places flags = (i : ℕ) → i < length flags → get_or flags i false ≡ is_one_of (reverse places) i
