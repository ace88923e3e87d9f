-- Tokens of pieces, piece by piece.
use Rattle.std.proofs.Common.{◌≡◌, ℕ, suc, ◌+◌, ◌<◌, ◌≤◌, Bool, false, List, [], ◌++◌, length, get_or, drop, Option, ap, sym, ◌∙◌, append-nil, add-one, arith}
use Rattle.std.proofs.lemmas.List.{drop_more, drop_all}
use Rattle.wesl_text_tokens.specs.declared.joining.Held.{Held as HeldSymbol}
use Rattle.wesl_text_tokens.specs.Characters.{is_one_of}
use Rattle.wesl_text_tokens.specs.Pieces.{Piece, Bit, a_sign, bits_of}
use Rattle.wesl_text_tokens.specs.Brackets.{Known}
use Rattle.wesl_text_tokens.specs.Tokens.{Made, Held, Joined, join, let_go, made_from, Placed, placed_from}
use Rattle.wesl_text_tokens.specs.Joining.{JoinsTo, LetsGo, bit_at, first_held, held_at}
use Rattle.wesl_text_tokens.proofs.Bits.{length_bits}

-- the tokens of the pieces from one with a number on, behind those before it
abbrev pub placed_behind : List Placed → ℕ → Known → Option HeldSymbol → List Piece → List Placed
placed_behind before i k h ps = before ++ placed_from (made_from i k (held_at i h) (drop i (bits_of ps))) (drop (first_held i h) ps)

made_step : (bs : List Bit) (i : ℕ) (k : Known) (h : Option Held) (b : Bit) → i < length bs → made_from i k h (drop i bs) ≡ (join (is_one_of k.opened i) (is_one_of k.closed i) h (get_or bs i b).is_glued (get_or bs i b).what).done ++ made_from (suc i) k (join (is_one_of k.opened i) (is_one_of k.closed i) h (get_or bs i b).is_glued (get_or bs i b).what).held (drop (i + 1) bs)
made_step bs i k h b l = ap (made_from i k h) (drop_more bs i b l)

joined_on : (ps : List Piece) (k : Known) (i : ℕ) (before after : List Placed) (h g : Option HeldSymbol) (j : Joined) → JoinsTo ps i before h j after g → after ++ placed_from (made_from (suc i) k (held_at (suc i) g) (drop (i + 1) (bits_of ps))) (drop (first_held (suc i) g) ps) ≡ before ++ placed_from (j.done ++ made_from (suc i) k j.held (drop (i + 1) (bits_of ps))) (drop (first_held i h) ps)
joined_on ps k i before after h g j to =
    to.done (made_from (suc i) k (held_at (suc i) g) (drop (i + 1) (bits_of ps)))
    ∙ ap (λ (x : Option Held). before ++ placed_from (j.done ++ made_from (suc i) k x (drop (i + 1) (bits_of ps))) (drop (first_held i h) ps)) to.held

-- one piece more
pub joins_on : (ps : List Piece) (k : Known) (i : ℕ) (before after : List Placed) (h g : Option HeldSymbol) (o c : Bool) → i < length ps → o ≡ is_one_of k.opened i → c ≡ is_one_of k.closed i → JoinsTo ps i before h (join o c (held_at i h) (bit_at ps i).is_glued (bit_at ps i).what) after g → placed_behind after (i + 1) k g ps ≡ placed_behind before i k h ps
joins_on ps k i before after h g o c l eo ec to =
    let bs : List Bit = bits_of ps in
    let b : Bit = record { what = a_sign []; is_glued = false } in
    let within : i < length bs = omega (arith, length_bits ps) in
    let made : (o' c' : Bool) → Joined = λ o' c'. join o' c' (held_at i h) (bit_at ps i).is_glued (bit_at ps i).what in
    let rest : Joined → List Placed = λ (j : Joined). before ++ placed_from (j.done ++ made_from (suc i) k j.held (drop (i + 1) bs)) (drop (first_held i h) ps) in
    ap (λ (n : ℕ). after ++ placed_from (made_from n k (held_at n g) (drop (i + 1) bs)) (drop (first_held n g) ps)) (add-one i)
    ∙ joined_on ps k i before after h g (made o c) to
    ∙ ap (λ (x : Bool). rest (made x c)) eo
    ∙ ap (λ (x : Bool). rest (made (is_one_of k.opened i) x)) ec
    ∙ ap (λ (ms : List Made). before ++ placed_from ms (drop (first_held i h) ps)) (sym (made_step bs i k (held_at i h) b within))

-- the end of the pieces
pub joins_last : (ps : List Piece) (k : Known) (n : ℕ) (before after : List Placed) (h : Option HeldSymbol) → n ≡ length ps → LetsGo ps n before h after → after ≡ placed_behind before n k h ps
joins_last ps k n before after h e to =
    let all : length (bits_of ps) ≤ n = omega (arith, length_bits ps) in
    sym (append-nil after) ∙ to []
    ∙ ap (λ (ms : List Made). before ++ placed_from ms (drop (first_held n h) ps)) (append-nil (let_go (held_at n h)))
    ∙ ap (λ (bs : List Bit). before ++ placed_from (made_from n k (held_at n h) bs) (drop (first_held n h) ps)) (sym (drop_all n (bits_of ps) all))
