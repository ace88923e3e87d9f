-- What is known of template lists, piece by piece.
use Rattle.std.proofs.Common.{◌≡◌, ◌≢◌, ℕ, suc, ◌+◌, ◌<◌, ◌≤◌, Bool, true, false, cond, eqb, List, [], ◌∷◌, length, get_or, drop, refl, ap, sym, ◌∙◌, add-one, arith}
use Rattle.std.proofs.lemmas.Bool.{eq-eqb, ne_eqb}
use Rattle.std.proofs.lemmas.List.{drop_all, drop_more, get_or-map, length-map}
use Rattle.wesl_tree_names.specs.Path.{Text}
use Rattle.wesl_text_tokens.specs.declared.piece.Piece.{Piece as HeldPiece}
use Rattle.wesl_text_tokens.specs.Brackets.{Known, known_behind, known_from, sign_behind}
use Rattle.wesl_text_tokens.specs.Pieces.{What, a_name, a_number, a_sign, Piece, Bit, bits_from, bits_of}
use Rattle.wesl_text_tokens.specs.Views.{piece_of, pieces_of, what_of}
use Rattle.wesl_text_tokens.proofs.Bits.{length_bits, next_bit}

-- the sign that a piece is, where it stands right behind another
abbrev pub sign_of : What → Bool → Text
sign_of (a_name t) g = []
sign_of (a_number t) g = []
sign_of (a_sign t) g = cond g t []

sign_there : (w : What) (g : Bool) (bs : List Bit) → sign_behind (record { what = w; is_glued = g } ∷ bs) ≡ sign_of w g
sign_there (a_name t) g bs = refl
sign_there (a_number t) g bs = refl
sign_there (a_sign t) g bs = refl

not_glued : (w : What) → sign_of w false ≡ []
not_glued (a_name t) = refl
not_glued (a_number t) = refl
not_glued (a_sign t) = refl

sign_next : (xs : List HeldPiece) (i : ℕ) (d : HeldPiece) → i + 1 < length xs → sign_behind (drop (i + 1) (bits_of (pieces_of xs))) ≡ sign_of (what_of (get_or xs (i + 1) d).what) (eqb (get_or xs (i + 1) d).start (get_or xs i d).end)
sign_next xs i d h =
    let ps : List Piece = pieces_of xs in
    let e : Piece = piece_of d in
    let n : i + 1 ≡ suc i = add-one i in
    let long : length ps ≡ length xs = length-map xs piece_of in
    let there : get_or ps (suc i) e ≡ piece_of (get_or xs (i + 1) d) = ap (λ (k : ℕ). get_or ps k e) (sym n) ∙ get_or-map piece_of xs (i + 1) d e h in
    let here : get_or ps i e ≡ piece_of (get_or xs i d) = get_or-map piece_of xs i d e (omega arith) in
    ap (λ (k : ℕ). sign_behind (drop k (bits_of ps))) n
    ∙ ap sign_behind (next_bit ps i e (omega arith))
    ∙ sign_there (get_or ps (suc i) e).what (eqb (get_or ps (suc i) e).start (get_or ps i e).finish) (bits_from (get_or ps (suc i) e).finish (drop (suc (suc i)) ps))
    ∙ ap (λ (p : Piece). sign_of p.what (eqb p.start (get_or ps i e).finish)) there
    ∙ ap (λ (q : Piece). sign_of (what_of (get_or xs (i + 1) d).what) (eqb (get_or xs (i + 1) d).start q.finish)) here

-- there is no piece behind
pub no_sign_last : (xs : List HeldPiece) (i : ℕ) → i + 1 ≡ length xs → [] ≡ sign_behind (drop (i + 1) (bits_of (pieces_of xs)))
no_sign_last xs i h =
    let all : length (bits_of (pieces_of xs)) ≤ i + 1 = omega (arith, length_bits (pieces_of xs), length-map xs piece_of) in
    sym (ap sign_behind (drop_all (i + 1) (bits_of (pieces_of xs)) all))

-- something stands between
pub no_sign_apart : (xs : List HeldPiece) (i : ℕ) (d : HeldPiece) → i + 1 < length xs → (get_or xs (i + 1) d).start ≢ (get_or xs i d).end → [] ≡ sign_behind (drop (i + 1) (bits_of (pieces_of xs)))
no_sign_apart xs i d h n =
    let w : What = what_of (get_or xs (i + 1) d).what in
    sym (sign_next xs i d h ∙ ap (sign_of w) (ne_eqb (get_or xs (i + 1) d).start (get_or xs i d).end n) ∙ not_glued w)

-- nothing does
pub sign_told : (xs : List HeldPiece) (i : ℕ) (d : HeldPiece) (w : What) → i + 1 < length xs → (get_or xs (i + 1) d).start ≡ (get_or xs i d).end → what_of (get_or xs (i + 1) d).what ≡ w → sign_of w true ≡ sign_behind (drop (i + 1) (bits_of (pieces_of xs)))
sign_told xs i d w h n e =
    sym (sign_next xs i d h ∙ ap (sign_of (what_of (get_or xs (i + 1) d).what)) (eq-eqb (get_or xs (i + 1) d).start (get_or xs i d).end n) ∙ ap (λ (v : What). sign_of v true) e)

pub known_more : (bs : List Bit) (i : ℕ) (k n : Known) (w : What) (s : Text) (b : Bit) → i < length bs → (get_or bs i b).what ≡ w → s ≡ sign_behind (drop (i + 1) bs) → n ≡ known_behind i w s k → known_from (i + 1) n (drop (i + 1) bs) ≡ known_from i k (drop i bs)
known_more bs i k n w s b h ew es en =
    ap (λ (j : ℕ). known_from j n (drop (i + 1) bs)) (add-one i)
    ∙ ap (λ (x : Known). known_from (suc i) x (drop (i + 1) bs)) (en ∙ ap (λ (v : What). known_behind i v s k) (sym ew) ∙ ap (λ (t : Text). known_behind i (get_or bs i b).what t k) es)
    ∙ sym (ap (known_from i k) (drop_more bs i b h))
