-- What a statement begins with, behind its attributes, where that is an expression.
use Rattle.std.proofs.Common.{◌≡◌, Bool, true, false, not, ◌&&◌, ◌||◌, if◌then◌else◌, List, [], ◌∷◌, Some, None, refl, sym as turned, ap, ◌∙◌, codes, bytes_eq}
use Rattle.std.proofs.lemmas.Slice.Eq.{bytes_eq-Decides}
use Rattle.wesl_tree_names.specs.Path.{Text}
use Rattle.wesl_tree_syntax.specs.Tree.{kind, assignment}
use Rattle.wesl_tree_syntax.specs.declared.statement.AssignmentOperator.TheVariants as assignment_operator
use Rattle.wesl_text_tokens.specs.declared.symbol.Symbol.TheVariants as is
use Rattle.wesl_text_tokens.specs.Symbols.{look_up}
use Rattle.wesl_text_tokens.specs.Tokens.{Token, name, symbol}
use Rattle.wesl_text_reading.specs.FirstTokens.{are_none, begins_sign, begins_word, begins_words, ends_block, words_of_statements, by_word, labelled, statement_label, behind_first}
use Rattle.wesl_text_reading.proofs.Filled.{no_true}
use Rattle.wesl_text_reading.proofs.Classes.{denied}
use Rattle.wesl_text_reading.proofs.Operands.{is_first_word, begins_operand}
use Rattle.wesl_text_reading.proofs.Selectors.{not_word}
use Rattle.std.proofs.lemmas.Bool.{and_parts, or_from}

-- statements go on: no block ends, and neither `else` nor `)` comes
abbrev pub Goes : List Token → Type 0
Goes vs = (ends_block vs ≡ false) × (begins_word (codes "else") vs ≡ false) × (begins_sign is.ParenRight vs ≡ false)

no_brace : (ts : List Token) → begins_operand ts ≡ true → (are_none ts ≡ false) × (begins_sign is.BraceRight ts ≡ false) × (begins_sign is.At ts ≡ false) × (begins_sign is.ParenRight ts ≡ false)
no_brace [] h = absurd (no_true h)
no_brace (symbol is.BraceRight ∷ ts) h = absurd (no_true h)
no_brace (symbol is.At ∷ ts) h = absurd (no_true h)
no_brace (symbol is.ParenRight ∷ ts) h = absurd (no_true h)
no_brace (t ∷ ts) h = (refl, refl, refl, refl)

-- an expression goes on with statements
pub operand_goes : (ts : List Token) → begins_operand ts ≡ true → Goes ts
operand_goes ts h =
    let x : (are_none ts ≡ false) × (begins_sign is.BraceRight ts ≡ false) × (begins_sign is.At ts ≡ false) × (begins_sign is.ParenRight ts ≡ false) = no_brace ts h in (
      or_from ((are_none ts || begins_sign is.BraceRight ts) || begins_word (codes "continuing") ts) (begins_words (codes "break") (codes "if") ts)
          (or_from (are_none ts || begins_sign is.BraceRight ts) (begins_word (codes "continuing") ts) (or_from (are_none ts) (begins_sign is.BraceRight ts) x.0 x.1) (not_word (codes "continuing") refl ts h))
          (ap (λ b. b && begins_word (codes "if") (behind_first ts)) (not_word (codes "break") refl ts h)),
      not_word (codes "else") refl ts h,
      x.3,
    )

pub operand_no_at : (ts : List Token) → begins_operand ts ≡ true → begins_sign is.At ts ≡ false
operand_no_at ts h = (no_brace ts h).2

-- none of these words may begin an expression
abbrev none_first : {A : Type 0} → List (Text × A) → Bool
none_first [] = true
none_first (p ∷ ps) = not (is_first_word p.0) && none_first ps

not_found : {A : Type 0} (ps : List (Text × A)) → none_first ps ≡ true → (t : Text) → is_first_word t ≡ true → look_up t ps ≡ None
not_found [] k t h = refl
not_found (p ∷ ps) k t h = let x : (not (is_first_word p.0) ≡ true) × (none_first ps ≡ true) = and_parts (not (is_first_word p.0)) (none_first ps) k in
    at (bytes_eq t p.0) refl (denied (is_first_word p.0) x.0) (not_found ps x.1 t h) where
      at : (b : Bool) → bytes_eq t p.0 ≡ b → is_first_word p.0 ≡ false → look_up t ps ≡ None → (if b then Some p.1 else look_up t ps) ≡ None
      at true e f g = absurd (no_true (turned f ∙ (ap is_first_word (turned ((bytes_eq-Decides t p.0).0 e)) ∙ h)))
      at false e f g = g

-- it tells no label
pub operand_tells_none : (ts : List Token) → begins_operand ts ≡ true → statement_label ts ≡ None
operand_tells_none [] h = absurd (no_true h)
operand_tells_none (symbol is.Semicolon ∷ ts) h = absurd (no_true h)
operand_tells_none (symbol is.BraceLeft ∷ ts) h = absurd (no_true h)
operand_tells_none (name t ∷ ts) h =
    ap (λ b. if b then Some (assignment assignment_operator.Equal) else labelled kind (by_word words_of_statements (name t ∷ ts))) (not_word (codes "_") refl (name t ∷ ts) h)
    ∙ ap (λ z. labelled kind z) (not_found words_of_statements refl t h)
operand_tells_none (t ∷ ts) h = refl
