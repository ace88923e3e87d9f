-- What is held is let go at the places of its pieces.
use Rattle.std.proofs.Common.{◌≡◌, ℕ, zero, suc, ◌+◌, ◌-◌, ◌<◌, ◌≤◌, List, [], ◌∷◌, ◌++◌, length, get_or, drop, Option, Some, None, refl, ap, sym, ◌∙◌, append_assoc, arith}
use Rattle.std.proofs.lemmas.List.{drop_more, drop-drop, get_or-drop, length-drop}
use Rattle.wesl_text_tokens.specs.declared.joining.Held.{Held as HeldSymbol}
use Rattle.wesl_text_tokens.specs.declared.symbol.Symbol.{Symbol}
use Rattle.wesl_text_tokens.specs.Pieces.{Piece}
use Rattle.wesl_text_tokens.specs.Symbols.{symbol_of, symbol_text}
use Rattle.wesl_text_tokens.specs.Tokens.{Token, symbol, Made, let_go, Placed, first_start, finish_at, placed_from}
use Rattle.wesl_text_tokens.specs.Joining.{held_at}
use Rattle.wesl_text_tokens.proofs.SymbolTexts.{symbol_of_text}

finish_there : (n : ℕ) (qs : List Piece) (d : Piece) → n < length qs → finish_at n qs ≡ (get_or qs n d).finish
finish_there n [] d h = absurd (omega arith)
finish_there zero (p ∷ []) d h = refl
finish_there (suc n) (p ∷ []) d h = absurd (omega arith)
finish_there zero (p ∷ q ∷ qs) d h = refl
finish_there (suc n) (p ∷ q ∷ qs) d h = finish_there n (q ∷ qs) d (omega arith)

-- a token that is made of the pieces from one to before another
abbrev pub placed_over : Token → List Piece → ℕ → ℕ → Piece → Placed
placed_over t ps f i d = record { token = t; start = (get_or ps f d).start; finish = (get_or ps (i - 1) d).finish }

pub placed_first : (t : Token) (ms : List Made) (ps : List Piece) (f i : ℕ) (d : Piece) → f < i → i ≤ length ps → placed_from (record { token = t; count = i - f } ∷ ms) (drop f ps) ≡ placed_over t ps f i d ∷ placed_from ms (drop i ps)
placed_first t ms ps f i d h l =
    let start : first_start (drop f ps) ≡ (get_or ps f d).start = ap first_start (drop_more ps f d (omega arith)) in
    let few : i - f - 1 < length (drop f ps) = omega (arith, length-drop f ps) in
    let last : f + (i - f - 1) ≡ i - 1 = omega arith in
    let finish : finish_at (i - f - 1) (drop f ps) ≡ (get_or ps (i - 1) d).finish = finish_there (i - f - 1) (drop f ps) d few ∙ ap (λ (p : Piece). p.finish) (get_or-drop f ps (i - f - 1) d ∙ ap (λ k. get_or ps k d) last) in
    let whole : f + (i - f) ≡ i = omega arith in
    let rest : drop (i - f) (drop f ps) ≡ drop i ps = drop-drop (i - f) f ps ∙ ap (λ k. drop k ps) whole in
    ap (λ (s : ℕ). record { token = t; start = s; finish = finish_at (i - f - 1) (drop f ps) } ∷ placed_from ms (drop (i - f) (drop f ps))) start
    ∙ ap (λ (e : ℕ). record { token = t; start = (get_or ps f d).start; finish = e } ∷ placed_from ms (drop (i - f) (drop f ps))) finish
    ∙ ap (λ (qs : List Piece). placed_over t ps f i d ∷ placed_from ms qs) rest

let_go_by : (o : Option Symbol) (y : Symbol) (n : ℕ) → o ≡ Some y → elim o as (λ _. List Made) [ None ↦ [] | Some s ↦ record { token = symbol s; count = n } ∷ [] ] ≡ record { token = symbol y; count = n } ∷ []
let_go_by o y n e = ap (λ (x : Option Symbol). elim x as (λ _. List Made) [ None ↦ [] | Some s ↦ record { token = symbol s; count = n } ∷ [] ]) e

pub let_go_text : (y : Symbol) (n : ℕ) → let_go (Some (record { text = symbol_text y; count = n })) ≡ record { token = symbol y; count = n } ∷ []
let_go_text y n = let_go_by (symbol_of (symbol_text y)) y n (symbol_of_text y)

-- what was held stands behind the tokens before
pub let_go_placed : (before : List Placed) (ms : List Made) (ps : List Piece) (h : HeldSymbol) (i : ℕ) (d : Piece) → h.first < i → i ≤ length ps → before ++ placed_from (let_go (held_at i (Some h)) ++ ms) (drop h.first ps) ≡ (before ++ placed_over (symbol h.symbol) ps h.first i d ∷ []) ++ placed_from ms (drop i ps)
let_go_placed before ms ps h i d o l =
    ap (λ (xs : List Made). before ++ placed_from (xs ++ ms) (drop h.first ps)) (let_go_text h.symbol (i - h.first))
    ∙ ap (λ (qs : List Placed). before ++ qs) (placed_first (symbol h.symbol) ms ps h.first i d o l)
    ∙ sym (append_assoc before (placed_over (symbol h.symbol) ps h.first i d ∷ []) (placed_from ms (drop i ps)))

-- a token of one piece
pub placed_one : (before : List Placed) (t : Token) (ms : List Made) (ps : List Piece) (i : ℕ) (d : Piece) → i < length ps → before ++ placed_from (record { token = t; count = 1 } ∷ ms) (drop i ps) ≡ (before ++ placed_over t ps i (i + 1) d ∷ []) ++ placed_from ms (drop (i + 1) ps)
placed_one before t ms ps i d h =
    let one : 1 ≡ i + 1 - i = omega arith in
    ap (λ (n : ℕ). before ++ placed_from (record { token = t; count = n } ∷ ms) (drop i ps)) one
    ∙ ap (λ (qs : List Placed). before ++ qs) (placed_first t ms ps i (i + 1) d (omega arith) (omega arith))
    ∙ sym (append_assoc before (placed_over t ps i (i + 1) d ∷ []) (placed_from ms (drop (i + 1) ps)))
