-- The pieces of a laid out text, and their bits.
use Rattle.std.proofs.Common.{◌≡◌, ℕ, zero, suc, ◌+◌, ◌<◌, Bool, true, false, not, ◌&&◌, ◌==◌, if◌then◌else◌, List, [], ◌∷◌, ◌++◌, length, Option, Some, None, option_map, Result, Ok, refl, sym as turned, ap, ◌∙◌, codes, append-nil, append_assoc, eqb-true, eq-eqb, ltb-true, nat_lt, arith}
use Rattle.std.specs.Result.{result_ok}
use Rattle.std.specs.Str.{chars, IsAscii}
use Rattle.std.proofs.lemmas.Bool.{and_parts, ne_eqb}
use Rattle.std.proofs.lemmas.Str.{chars-append, chars-IsAscii, IsUtf8-from_ascii, len_utf8_ascii}
use Rattle.wesl_tree_base.specs.Pieces.{is_empty}
use Rattle.wesl_tree_names.specs.Path.{Text}
use Rattle.wesl_text_tokens.specs.Characters.{is_blank}
use Rattle.wesl_text_tokens.specs.Pieces.{Piece, Bit, Mode, Fault, gap, begun, followed_by, read_from, bits_from, bits_of}
use Rattle.wesl_text_tokens.specs.Symbols.{symbol_text}
use Rattle.wesl_text_tokens.specs.Tokens.{Token, name, number, symbol, open_list, close_list, tokens_of_bits, tokens}
use Rattle.wesl_text_tokens.proofs.SymbolTexts.{each}
use Rattle.wesl_text_form.specs.Says.{sign_bits, token_bits}
use Rattle.wesl_text_sink.specs.declared.kind.Kind.{Kind}
use Rattle.wesl_text_sink.specs.Layout.{Laid, are_apart, are_blanks, are_laid, is_spelled, kind_of, layout, token_text}
use Rattle.wesl_text_sink.proofs.Pieces.{placed_bits, what_text}
use Rattle.wesl_text_sink.proofs.Runs.{run_one}
use Rattle.wesl_text_sink.proofs.Touched.{AllRead, is_space, laid_chars, next_follows, one_passes}

-- ---- characters

blank_low : (c : ℕ) → is_space c ≡ true → c < 128
blank_low c h = ltb-true c 128 (one_passes (λ d. nat_lt d 128) (codes " \n") c refl h)

blank_read : (c at : ℕ) (rest : List ℕ) → is_space c ≡ true → read_from gap at (c ∷ rest) ≡ read_from gap (at + 1) rest
blank_read c at rest h = run_one c 1 (λ k. gap) (len_utf8_ascii c (blank_low c h)) (λ k. blank_begun k) at rest where
  blank_begun : (k : ℕ) → begun k c ≡ Ok gap
  blank_begun k = goes (is_blank c) _ (one_passes is_blank (codes " \n") c refl h) where
    goes : (b : Bool) (x : Result Mode Fault) → b ≡ true → (if b then Ok gap else x) ≡ Ok gap
    goes b x e = ap (λ z. let r : Result Mode Fault = if z then Ok gap else x in r) e

blanks_read : (bs : List ℕ) (at : ℕ) (rest : List ℕ) → are_blanks bs ≡ true → read_from gap at (bs ++ rest) ≡ read_from gap (at + length bs) rest
blanks_read [] at rest h = let same : at ≡ at + length {A = ℕ} [] = omega arith in ap (λ k. read_from gap k rest) same
blanks_read (b ∷ bs) at rest h =
    let x : (is_space b ≡ true) × (are_blanks bs ≡ true) = and_parts _ _ h in
    let far : at + 1 + length bs ≡ at + length (b ∷ bs) = omega arith in
    blank_read b at (bs ++ rest) x.0 ∙ (blanks_read bs (at + 1) rest x.1 ∙ ap (λ k. read_from gap k rest) far)

-- the pieces of laid out tokens
abbrev pub laid_pieces : ℕ → List Laid → List Piece
laid_pieces at [] = []
laid_pieces at (l ∷ ls) = placed_bits (at + length l.blanks) (token_bits l.token) ++ laid_pieces (at + length l.blanks + length (token_text l.token)) ls

laid_read : (ls : List Laid) (before : Option Kind) (at : ℕ) (e : List ℕ) → AllRead ls → are_laid before ls ≡ true → are_blanks e ≡ true → read_from gap at (laid_chars ls ++ e) ≡ Ok (laid_pieces at ls)
laid_read [] before at e r h g = ap (λ cs. read_from gap at cs) (turned (append-nil e)) ∙ blanks_read e at [] g
laid_read (l ∷ ls) before at e r h g =
    let x : ((are_blanks l.blanks && is_spelled l.token) ≡ true) × ((are_apart before l.blanks (kind_of l.token) && are_laid (Some (kind_of l.token)) ls) ≡ true) = and_parts _ _ h in
    let blanks : are_blanks l.blanks ≡ true = (and_parts (are_blanks l.blanks) (is_spelled l.token) x.0).0 in
    let later : are_laid (Some (kind_of l.token)) ls ≡ true = (and_parts (are_apart before l.blanks (kind_of l.token)) (are_laid (Some (kind_of l.token)) ls) x.1).1 in
    let cs : List ℕ = chars (token_text l.token) in
    let start : ℕ = at + length l.blanks in
    ap (λ zs. read_from gap at zs) (append_assoc l.blanks (cs ++ laid_chars ls) e ∙ ap (λ zs. l.blanks ++ zs) (append_assoc cs (laid_chars ls) e))
    ∙ (blanks_read l.blanks at (cs ++ (laid_chars ls ++ e)) blanks
    ∙ (r.0.read start (laid_chars ls ++ e) (next_follows l.token ls e r.1 later g)
    ∙ ap (followed_by (placed_bits start (token_bits l.token))) (laid_read ls (Some (kind_of l.token)) (start + length (token_text l.token)) e r.1 later g)))

blanks_ascii : (bs : List ℕ) → are_blanks bs ≡ true → IsAscii bs
blanks_ascii [] h i = omega arith
blanks_ascii (b ∷ bs) h zero = blank_low b (and_parts (is_space b) (are_blanks bs) h).0
blanks_ascii (b ∷ bs) h (suc i) = blanks_ascii bs (and_parts (is_space b) (are_blanks bs) h).1 i

-- the characters of the text
text_chars : (ls : List Laid) (before : Option Kind) (e : List ℕ) → AllRead ls → are_laid before ls ≡ true → are_blanks e ≡ true → chars (layout ls ++ e) ≡ laid_chars ls ++ e
text_chars [] before e r h g = chars-IsAscii e (blanks_ascii e g)
text_chars (l ∷ ls) before e r h g =
    let x : ((are_blanks l.blanks && is_spelled l.token) ≡ true) × ((are_apart before l.blanks (kind_of l.token) && are_laid (Some (kind_of l.token)) ls) ≡ true) = and_parts _ _ h in
    let blanks : are_blanks l.blanks ≡ true = (and_parts (are_blanks l.blanks) (is_spelled l.token) x.0).0 in
    let later : are_laid (Some (kind_of l.token)) ls ≡ true = (and_parts (are_apart before l.blanks (kind_of l.token)) (are_laid (Some (kind_of l.token)) ls) x.1).1 in
    let b : Text = l.blanks in
    let t : Text = token_text l.token in
    let rest : Text = layout ls ++ e in
    let ascii : IsAscii b = blanks_ascii b blanks in
    ap chars (append_assoc (b ++ t) (layout ls) e ∙ append_assoc b t rest)
    ∙ (chars-append b (t ++ rest) (IsUtf8-from_ascii b ascii)
    ∙ (ap (λ z. z ++ chars (t ++ rest)) (chars-IsAscii b ascii)
    ∙ (ap (λ z. b ++ z) (chars-append t rest r.0.utf8 ∙ ap (λ z. chars t ++ z) (text_chars ls (Some (kind_of l.token)) e r.1 later g))
    ∙ (ap (λ z. b ++ z) (turned (append_assoc (chars t) (laid_chars ls) e)) ∙ turned (append_assoc b (chars t ++ laid_chars ls) e)))))

-- ---- bits

abbrev pub set_glue : Bool → List Bit → List Bit
set_glue g [] = []
set_glue g (b ∷ bs) = record { what = b.what; is_glued = g } ∷ bs

-- the bits of laid out tokens
abbrev pub laid_bits : Bool → List Laid → List Bit
laid_bits g [] = []
laid_bits g (l ∷ ls) = set_glue (g && is_empty l.blanks) (token_bits l.token) ++ laid_bits true ls

abbrev pub all_glued : List Bit → Bool
all_glued [] = true
all_glued (b ∷ bs) = b.is_glued && all_glued bs

-- the first stands apart, and the others behind it
abbrev pub one_apart : List Bit → Bool
one_apart [] = false
one_apart (b ∷ bs) = not b.is_glued && all_glued bs

abbrev bits_len : List Bit → ℕ
bits_len [] = 0
bits_len (b ∷ bs) = length (what_text b.what) + bits_len bs

glued_from : (bs : List Bit) (at : ℕ) (ps : List Piece) → all_glued bs ≡ true → bits_from at (placed_bits at bs ++ ps) ≡ bs ++ bits_from (at + bits_len bs) ps
glued_from [] at ps h = let same : at ≡ at + bits_len [] = omega arith in ap (λ k. bits_from k ps) same
glued_from (b ∷ bs) at ps h =
    let x : (b.is_glued ≡ true) × (all_glued bs ≡ true) = and_parts _ _ h in
    let next : ℕ = at + length (what_text b.what) in
    let far : next + bits_len bs ≡ at + bits_len (b ∷ bs) = omega arith in
    let glue : (at == at) ≡ b.is_glued = eq-eqb at at refl ∙ turned x.0 in
    ap (λ g. let c : Bit = record { what = b.what; is_glued = g } in c ∷ bits_from next (placed_bits next bs ++ ps)) glue
    ∙ ap (λ cs. b ∷ cs) (glued_from bs next ps x.1 ∙ ap (λ k. bs ++ bits_from k ps) far)

token_from : (bs : List Bit) (n at from : ℕ) (ps : List Piece) → one_apart bs ≡ true → bits_len bs ≡ n → bits_from from (placed_bits at bs ++ ps) ≡ set_glue (at == from) bs ++ bits_from (at + n) ps
token_from [] n at from ps h l = absurd (cc h)
token_from (b ∷ bs) n at from ps h l =
    let x : (not b.is_glued ≡ true) × (all_glued bs ≡ true) = and_parts _ _ h in
    let next : ℕ = at + length (what_text b.what) in
    let far : next + bits_len bs ≡ at + n = omega (arith, l) in
    ap (λ cs. let c : Bit = record { what = b.what; is_glued = at == from } in c ∷ cs) (glued_from bs next ps x.1 ∙ ap (λ k. bs ++ bits_from k ps) far)

token_first : (bs : List Bit) (n at : ℕ) (ps : List Piece) → one_apart bs ≡ true → bits_len bs ≡ n → bits_of (placed_bits at bs ++ ps) ≡ set_glue false bs ++ bits_from (at + n) ps
token_first [] n at ps h l = absurd (cc h)
token_first (b ∷ bs) n at ps h l =
    let x : (not b.is_glued ≡ true) × (all_glued bs ≡ true) = and_parts _ _ h in
    let next : ℕ = at + length (what_text b.what) in
    let far : next + bits_len bs ≡ at + n = omega (arith, l) in
    ap (λ cs. let c : Bit = record { what = b.what; is_glued = false } in c ∷ cs) (glued_from bs next ps x.1 ∙ ap (λ k. bs ++ bits_from k ps) far)

pub bits_apart_first : (t : Token) → one_apart (token_bits t) ≡ true
bits_apart_first (name t) = refl
bits_apart_first (number t) = refl
bits_apart_first (symbol s) = each (λ y. one_apart (sign_bits (symbol_text y))) refl s
bits_apart_first open_list = refl
bits_apart_first close_list = refl

token_len : (t : Token) → bits_len (token_bits t) ≡ length (token_text t)
token_len (name t) = let same : length t + 0 ≡ length t = omega arith in same
token_len (number t) = let same : length t + 0 ≡ length t = omega arith in same
token_len (symbol s) = eqb-true (bits_len (sign_bits (symbol_text s))) (length (symbol_text s)) (each (λ y. bits_len (sign_bits (symbol_text y)) == length (symbol_text y)) refl s)
token_len open_list = refl
token_len close_list = refl

glue_is : (bs : List ℕ) (at : ℕ) → (at + length bs == at) ≡ is_empty bs
glue_is [] at = let same : at + length {A = ℕ} [] ≡ at = omega arith in eq-eqb (at + length {A = ℕ} []) at same
glue_is (b ∷ bs) at = ne_eqb (at + length (b ∷ bs)) at (λ e. omega (arith, e))

laid_from : (ls : List Laid) (at : ℕ) → bits_from at (laid_pieces at ls) ≡ laid_bits true ls
laid_from [] at = refl
laid_from (l ∷ ls) at =
    let start : ℕ = at + length l.blanks in
    let next : ℕ = start + length (token_text l.token) in
    token_from (token_bits l.token) (length (token_text l.token)) start at (laid_pieces next ls) (bits_apart_first l.token) (token_len l.token)
    ∙ (ap (λ g. set_glue g (token_bits l.token) ++ bits_from next (laid_pieces next ls)) (glue_is l.blanks at)
    ∙ ap (λ bs. set_glue (is_empty l.blanks) (token_bits l.token) ++ bs) (laid_from ls next))

laid_first : (ls : List Laid) (at : ℕ) → bits_of (laid_pieces at ls) ≡ laid_bits false ls
laid_first [] at = refl
laid_first (l ∷ ls) at =
    let start : ℕ = at + length l.blanks in
    let next : ℕ = start + length (token_text l.token) in
    token_first (token_bits l.token) (length (token_text l.token)) start (laid_pieces next ls) (bits_apart_first l.token) (token_len l.token)
    ∙ ap (λ bs. set_glue false (token_bits l.token) ++ bs) (laid_from ls next)

-- the tokens of a laid out text are those of its bits
pub tokens_laid : (ls : List Laid) (e : Text) → AllRead ls → are_laid None ls ≡ true → are_blanks e ≡ true → tokens (layout ls ++ e) ≡ Some (tokens_of_bits (laid_bits false ls))
tokens_laid ls e r h g =
    ap (λ (x : Result (List Piece) Fault). option_map (λ ps. tokens_of_bits (bits_of ps)) (result_ok x)) (ap (λ cs. read_from gap 0 cs) (text_chars ls None e r h g) ∙ laid_read ls None 0 e r h g)
    ∙ ap (λ bs. let o : Option (List Token) = Some (tokens_of_bits bs) in o) (laid_first ls 0)
