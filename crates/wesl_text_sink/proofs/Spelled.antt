-- The tokens of a text by those with their places.
use Rattle.std.proofs.Common.{◌≡◌, Bool, true, false, ◌&&◌, List, [], ◌∷◌, map, drop, Option, Some, None, option_map, refl, ap, sym, ◌∙◌}
use Rattle.std.specs.Str.{chars}
use Rattle.wesl_tree_names.specs.Path.{Text}
use Rattle.wesl_text_tokens.specs.declared.token.PlacedToken.{PlacedToken}
use Rattle.wesl_text_tokens.specs.Pieces.{Piece, pieces, bits_of}
use Rattle.wesl_text_tokens.specs.Tokens.{Made, made_of, Placed, placed_from, placed_tokens, tokens}
use Rattle.wesl_text_tokens.specs.Views.{all_placed_of, token_of}
use Rattle.wesl_text_form.specs.Names.{is_free, is_name, is_word}

same_tokens : (ms : List Made) (ps : List Piece) → map (λ p. p.token) (placed_from ms ps) ≡ map (λ m. m.token) ms
same_tokens [] ps = refl
same_tokens (m ∷ ms) ps = ap (λ ts. m.token ∷ ts) (same_tokens ms (drop m.count ps))

of_pieces : (o : Option (List Piece)) → option_map (λ ps. map (λ p. p.token) (placed_from (made_of (bits_of ps)) ps)) o ≡ option_map (λ ps. map (λ m. m.token) (made_of (bits_of ps))) o
of_pieces None = refl
of_pieces (Some ps) = ap Some (same_tokens (made_of (bits_of ps)) ps)

mapped : (o : Option (List Piece)) → option_map (λ (qs : List Placed). map (λ p. p.token) qs) (option_map (λ ps. placed_from (made_of (bits_of ps)) ps) o) ≡ option_map (λ ps. map (λ p. p.token) (placed_from (made_of (bits_of ps)) ps)) o
mapped None = refl
mapped (Some ps) = refl

viewed : (ts : List PlacedToken) → map (λ p. p.token) (all_placed_of ts) ≡ map (λ p. token_of p.token) ts
viewed [] = refl
viewed (t ∷ ts) = ap (λ us. token_of t.token ∷ us) (viewed ts)

-- the tokens of a text by those that are read of it
pub tokens_read : (t : Text) (ts : List PlacedToken) → placed_tokens t ≡ Some (all_placed_of ts) → tokens t ≡ Some (map (λ p. token_of p.token) ts)
tokens_read t ts e =
    sym (of_pieces (pieces (chars t)))
    ∙ (sym (mapped (pieces (chars t)))
    ∙ (ap (λ (o : Option (List Placed)). option_map (λ qs. map (λ p. p.token) qs) o) e ∙ ap Some (viewed ts)))

-- what is no free word is no name
pub no_name : (t : Text) → is_free t ≡ false → false ≡ is_name t
no_name t e = sym (ap (λ b. is_word t && b) e ∙ by (is_word t)) where
  by : (b : Bool) → (b && false) ≡ false
  by true = refl
  by false = refl
