-- Signs that are joined or let go, and the tokens of one piece.
use Rattle.std.proofs.Common.{◌≡◌, ◌≢◌, ℕ, suc, ◌+◌, ◌-◌, ◌<◌, ◌≤◌, Bool, true, false, ◌&&◌, eqb, List, [], ◌∷◌, ◌++◌, length, get_or, drop, Option, Some, None, Result, IfOk, is_some, refl, ap, sym, subst, ◌∙◌, append_assoc, add-one, arith}
use Rattle.std.proofs.lemmas.Bool.{eq-eqb, ne_eqb}
use Rattle.std.proofs.lemmas.List.{get_or-map, length-map, map_push}
use Rattle.wesl_tree_names.specs.Path.{Text}
use Rattle.wesl_text_tokens.specs.declared.joining.Held.{Held as HeldSymbol}
use Rattle.wesl_text_tokens.specs.declared.piece.Piece.{Piece as HeldPiece}
use Rattle.wesl_text_tokens.specs.declared.symbol.Symbol.{Symbol}
use Rattle.wesl_text_tokens.specs.declared.token.PlacedToken.{PlacedToken}
use Rattle.wesl_text_tokens.specs.Pieces.{What, a_sign, Piece}
use Rattle.wesl_text_tokens.specs.Symbols.{symbol_of, symbol_text}
use Rattle.wesl_text_tokens.specs.Tokens.{Token, symbol, open_list, close_list, Made, Held, Joined, behind, join, joins, let_go, more, Placed, placed_from}
use Rattle.wesl_text_tokens.specs.Joining.{IsHeldBefore, JoinsTo, LetsGo, bit_at, first_held, held_at}
use Rattle.wesl_text_tokens.specs.Views.{all_placed_of, piece_of, pieces_of, placed_of, what_of}
use Rattle.wesl_text_tokens.proofs.Placing.{let_go_placed, placed_one, placed_over}
use Rattle.wesl_text_tokens.proofs.SymbolTexts.{text_of_symbol}
use Rattle.wesl_text_tokens.proofs.Bits.{glued_there, what_there}

-- a piece of the code among the pieces
here : (xs : List HeldPiece) (i : ℕ) (d : HeldPiece) → i < length xs → get_or (pieces_of xs) i (piece_of d) ≡ piece_of (get_or xs i d)
here xs i d h = get_or-map piece_of xs i d (piece_of d) h

pub what_here : (xs : List HeldPiece) (i : ℕ) (d : HeldPiece) → i < length xs → (bit_at (pieces_of xs) i).what ≡ what_of (get_or xs i d).what
what_here xs i d h =
    what_there (pieces_of xs) i (piece_of d) (record { what = a_sign []; is_glued = false }) (omega (arith, length-map xs piece_of))
    ∙ ap (λ (p : Piece). p.what) (here xs i d h)

pub glued_here : (xs : List HeldPiece) (i : ℕ) (d : HeldPiece) → 0 < i → i < length xs → (bit_at (pieces_of xs) i).is_glued ≡ eqb (get_or xs i d).start (get_or xs (i - 1) d).end
glued_here xs i d p h =
    glued_there (pieces_of xs) i (piece_of d) (record { what = a_sign []; is_glued = false }) p (omega (arith, length-map xs piece_of))
    ∙ ap (λ (q : Piece). eqb q.start (get_or (pieces_of xs) (i - 1) (piece_of d)).finish) (here xs i d h)
    ∙ ap (λ (q : Piece). eqb (get_or xs i d).start q.finish) (here xs (i - 1) d (omega arith))

-- a token over the pieces from one to before another, by the pieces of the code
pub over_here : (t : Token) (xs : List HeldPiece) (f i : ℕ) (d : HeldPiece) → f < i → i ≤ length xs → placed_over t (pieces_of xs) f i (piece_of d) ≡ record { token = t; start = (get_or xs f d).start; finish = (get_or xs (i - 1) d).end }
over_here t xs f i d h l =
    ap (λ (q : Piece). record { token = t; start = q.start; finish = (get_or (pieces_of xs) (i - 1) (piece_of d)).finish }) (here xs f d (omega arith))
    ∙ ap (λ (q : Piece). record { token = t; start = (get_or xs f d).start; finish = q.finish }) (here xs (i - 1) d (omega arith))

first_before : (i : ℕ) (g : Option HeldSymbol) (h : HeldSymbol) → g ≡ Some h → IsHeldBefore i g → h.first < i
first_before i g h e k = subst (λ (o : Option HeldSymbol). IsHeldBefore i o) e k

lets_go : (old : List PlacedToken) (xs : List HeldPiece) (i : ℕ) (h : HeldSymbol) (d : HeldPiece) (t : PlacedToken) → h.first < i → i ≤ length xs → placed_of t ≡ record { token = symbol h.symbol; start = (get_or xs h.first d).start; finish = (get_or xs (i - 1) d).end } → LetsGo (pieces_of xs) i (all_placed_of old) (Some h) (all_placed_of (old ++ t ∷ []))
lets_go old xs i h d t o l e ms =
    ap (λ (ps : List Placed). ps ++ placed_from ms (drop i (pieces_of xs))) (map_push placed_of old t ∙ ap (λ (p : Placed). all_placed_of old ++ p ∷ []) (e ∙ sym (over_here (symbol h.symbol) xs h.first i d o l)))
    ∙ sym (let_go_placed (all_placed_of old) ms (pieces_of xs) h i (piece_of d) o (omega (arith, length-map xs piece_of)))

-- the symbol that was held is let go
pub released : (old new : List PlacedToken) (xs : List HeldPiece) (i : ℕ) (g : Option HeldSymbol) (h : HeldSymbol) (d : HeldPiece) (t : PlacedToken) → g ≡ Some h → IsHeldBefore i g → i ≤ length xs → new ≡ old ++ t ∷ [] → placed_of t ≡ record { token = symbol h.symbol; start = (get_or xs h.first d).start; finish = (get_or xs (i - 1) d).end } → LetsGo (pieces_of xs) i (all_placed_of old) g (all_placed_of new)
released old new xs i g h d t e k l n p =
    subst (λ (ts : List PlacedToken). LetsGo (pieces_of xs) i (all_placed_of old) g (all_placed_of ts)) (sym n)
    (subst (λ (o : Option HeldSymbol). LetsGo (pieces_of xs) i (all_placed_of old) o (all_placed_of (old ++ t ∷ []))) (sym e) (lets_go old xs i h d t (first_before i g h e k) l p))

-- a token of one piece behind what is let go
single_placed : (before : List Placed) (mid : List PlacedToken) (xs : List HeldPiece) (i : ℕ) (h : Option HeldSymbol) (d : HeldPiece) (w : Token) (t : PlacedToken) → i < length xs → placed_of t ≡ record { token = w; start = (get_or xs i d).start; finish = (get_or xs i d).end } → LetsGo (pieces_of xs) i before h (all_placed_of mid) → JoinsTo (pieces_of xs) i before h (behind (held_at i h) w) (all_placed_of (mid ++ t ∷ [])) None
single_placed before mid xs i h d w t l e go =
    let ps : List Piece = pieces_of xs in
    let one : Made = record { token = w; count = 1 } in
    let same : i + 1 - 1 ≡ i = omega arith in
    let over : placed_over w ps i (i + 1) (piece_of d) ≡ placed_of t =
    over_here w xs i (i + 1) d (omega arith) (omega arith) ∙ ap (λ (n : ℕ). record { token = w; start = (get_or xs i d).start; finish = (get_or xs n d).end }) same ∙ sym e in
    record {
      held = refl;
      done = λ ms.
          ap (λ (ys : List Placed). ys ++ placed_from ms (drop (suc i) ps)) (map_push placed_of mid t ∙ ap (λ (p : Placed). all_placed_of mid ++ p ∷ []) (sym over))
          ∙ ap (λ (n : ℕ). (all_placed_of mid ++ placed_over w ps i (i + 1) (piece_of d) ∷ []) ++ placed_from ms (drop n ps)) (sym (add-one i))
          ∙ sym (placed_one (all_placed_of mid) w ms ps i (piece_of d) (omega (arith, length-map xs piece_of)))
          ∙ go (one ∷ ms)
          ∙ ap (λ (ys : List Made). before ++ placed_from ys (drop (first_held i h) ps)) (sym (append_assoc (let_go (held_at i h)) (one ∷ []) ms));
    }

-- what a piece does, by what it is
pub joins_by : {E : Type 0} (r : Result (Option HeldSymbol) E) (ps : List Piece) (i : ℕ) (before after : List Placed) (h : Option HeldSymbol) (o c : Bool) (w : What) (j : Joined) → (bit_at ps i).what ≡ w → join o c (held_at i h) (bit_at ps i).is_glued w ≡ j → IfOk r (λ k. JoinsTo ps i before h j after k) → IfOk r (λ k. JoinsTo ps i before h (join o c (held_at i h) (bit_at ps i).is_glued (bit_at ps i).what) after k)
joins_by r ps i before after h o c w j e s to =
    subst (λ (x : Joined). IfOk r (λ k. JoinsTo ps i before h x after k)) (sym (ap (λ (v : What). join o c (held_at i h) (bit_at ps i).is_glued v) e ∙ s)) to

pub opens_list : (o c g : Bool) (h : Option Held) (t : Text) → o ≡ true → join o c h g (a_sign t) ≡ behind h open_list
opens_list o c g h t e = ap (λ (b : Bool). join b c h g (a_sign t)) e

pub closes_list : (o c g : Bool) (h : Option Held) (t : Text) → o ≡ false → c ≡ true → join o c h g (a_sign t) ≡ behind h close_list
closes_list o c g h t e f = ap (λ (b : Bool). join b c h g (a_sign t)) e ∙ ap (λ (b : Bool). join false b h g (a_sign t)) f

pub no_list : (o c g : Bool) (h : Option Held) (t : Text) → o ≡ false → c ≡ false → join o c h g (a_sign t) ≡ join false false h g (a_sign t)
no_list o c g h t e f = ap (λ (b : Bool). join b c h g (a_sign t)) e ∙ ap (λ (b : Bool). join false b h g (a_sign t)) f

pub single_behind : (before : List Placed) (mid new : List PlacedToken) (xs : List HeldPiece) (i : ℕ) (h : Option HeldSymbol) (d : HeldPiece) (w : Token) (t : PlacedToken) → i < length xs → new ≡ mid ++ t ∷ [] → placed_of t ≡ record { token = w; start = (get_or xs i d).start; finish = (get_or xs i d).end } → LetsGo (pieces_of xs) i before h (all_placed_of mid) → JoinsTo (pieces_of xs) i before h (behind (held_at i h) w) (all_placed_of new) None
single_behind before mid new xs i h d w t l n e go = subst (λ (ts : List PlacedToken). JoinsTo (pieces_of xs) i before h (behind (held_at i h) w) (all_placed_of ts) None) (sym n) (single_placed before mid xs i h d w t l e go)

-- ---- one sign more

apart_by : (xs : List HeldPiece) (i : ℕ) (h : HeldSymbol) (d : HeldPiece) (t : Text) → h.first < i → i < length xs → (get_or xs (i - 1) d).end ≢ (get_or xs i d).start → false ≡ joins (held_at i (Some h)) t (bit_at (pieces_of xs) i).is_glued
apart_by xs i h d t o l e =
    ap (λ (b : Bool). b && is_some (symbol_of (symbol_text h.symbol ++ t))) (sym (glued_here xs i d (omega arith) l ∙ ne_eqb (get_or xs i d).start (get_or xs (i - 1) d).end (λ same. e (sym same))))

together_by : (xs : List HeldPiece) (i : ℕ) (h : HeldSymbol) (d : HeldPiece) (t : Text) → h.first < i → i < length xs → (get_or xs (i - 1) d).end ≡ (get_or xs i d).start → is_some (symbol_of (symbol_text h.symbol ++ t)) ≡ joins (held_at i (Some h)) t (bit_at (pieces_of xs) i).is_glued
together_by xs i h d t o l e =
    ap (λ (b : Bool). b && is_some (symbol_of (symbol_text h.symbol ++ t))) (sym (glued_here xs i d (omega arith) l ∙ eq-eqb (get_or xs i d).start (get_or xs (i - 1) d).end (sym e)))

more_by : (i : ℕ) (h : HeldSymbol) (s both : Symbol) → h.first < i → Some both ≡ symbol_of (symbol_text h.symbol ++ symbol_text s) → held_at (suc i) (Some (record { symbol = both; first = h.first })) ≡ more (held_at i (Some h)) (symbol_text s)
more_by i h s both o e =
    let count : suc i - h.first ≡ suc (i - h.first) = omega arith in
    ap (λ (t : Text). Some (record { text = t; count = suc i - h.first })) (text_of_symbol (symbol_text h.symbol ++ symbol_text s) both (sym e))
    ∙ ap (λ (n : ℕ). Some (record { text = symbol_text h.symbol ++ symbol_text s; count = n })) count

-- something stands between
pub apart : (xs : List HeldPiece) (i : ℕ) (g : Option HeldSymbol) (h : HeldSymbol) (d : HeldPiece) (t : Text) → g ≡ Some h → IsHeldBefore i g → i < length xs → (get_or xs (i - 1) d).end ≢ (get_or xs i d).start → false ≡ joins (held_at i g) t (bit_at (pieces_of xs) i).is_glued
apart xs i g h d t e k l n = subst (λ (o : Option HeldSymbol). false ≡ joins (held_at i o) t (bit_at (pieces_of xs) i).is_glued) (sym e) (apart_by xs i h d t (first_before i g h e k) l n)

-- nothing does
pub together : (xs : List HeldPiece) (i : ℕ) (g : Option HeldSymbol) (h : HeldSymbol) (d : HeldPiece) (t : Text) → g ≡ Some h → IsHeldBefore i g → i < length xs → (get_or xs (i - 1) d).end ≡ (get_or xs i d).start → is_some (symbol_of (symbol_text h.symbol ++ t)) ≡ joins (held_at i g) t (bit_at (pieces_of xs) i).is_glued
together xs i g h d t e k l n = subst (λ (o : Option HeldSymbol). is_some (symbol_of (symbol_text h.symbol ++ t)) ≡ joins (held_at i o) t (bit_at (pieces_of xs) i).is_glued) (sym e) (together_by xs i h d t (first_before i g h e k) l n)

pub more_held : (i : ℕ) (g : Option HeldSymbol) (h : HeldSymbol) (s both : Symbol) → g ≡ Some h → IsHeldBefore i g → Some both ≡ symbol_of (symbol_text h.symbol ++ symbol_text s) → held_at (suc i) (Some (record { symbol = both; first = h.first })) ≡ more (held_at i g) (symbol_text s)
more_held i g h s both e k n = subst (λ (o : Option HeldSymbol). held_at (suc i) (Some (record { symbol = both; first = h.first })) ≡ more (held_at i o) (symbol_text s)) (sym e) (more_by i h s both (first_before i g h e k) n)
