-- The tokens of a whole text, or why it has none.
use Rattle.std.proofs.Common.{◌≡◌, List, Some, Result, Ok, Err, IfErr, refl, ap, sym, subst, ◌∙◌}
use Rattle.std.specs.Prelude.{option_map}
use Rattle.std.specs.Result.{result_ok}
use Rattle.std.specs.Str.{chars}
use Rattle.wesl_tree_names.specs.Path.{Text}
use Rattle.wesl_text_tokens.specs.declared.fault.TokenFault.{TokenFault}
use Rattle.wesl_text_tokens.specs.declared.fault.TokenFault.TheVariants as told
use Rattle.wesl_text_tokens.specs.declared.piece.Piece.{Piece as HeldPiece}
use Rattle.wesl_text_tokens.specs.declared.token.PlacedToken.{PlacedToken}
use Rattle.wesl_text_tokens.specs.Pieces.{Fault, Piece, bits_of, gap, pieces_or_fault}
use Rattle.wesl_text_tokens.specs.Reading.{IsFaultOf, TellsFault, read_at}
use Rattle.wesl_text_tokens.specs.Tokens.{Placed, made_of, placed_from, placed_tokens}
use Rattle.wesl_text_tokens.specs.Views.{all_placed_of, pieces_of}

whole : (t : Text) → read_at t gap 0 ≡ pieces_or_fault (chars t)
unfolding read_at
whole t = refl

abbrev placed_pieces : List Piece → List Placed
placed_pieces ps = placed_from (made_of (bits_of ps)) ps

-- pieces of the text, and the tokens that they are
pub tokens_found : (t : Text) (xs ys : List HeldPiece) (ts : List PlacedToken) → read_at t gap 0 ≡ Ok (pieces_of xs) → ys ≡ xs → all_placed_of ts ≡ placed_from (made_of (bits_of (pieces_of ys))) (pieces_of ys) → placed_tokens t ≡ Some (all_placed_of ts)
tokens_found t xs ys ts h same e =
    ap (λ (r : Result (List Piece) Fault). option_map placed_pieces (result_ok r)) (sym (whole t) ∙ h)
    ∙ ap Some (sym (e ∙ ap (λ (zs : List HeldPiece). placed_pieces (pieces_of zs)) same))

fault_found : (t : Text) (e : TokenFault) → TellsFault (read_at t gap 0) e → IsFaultOf t e
fault_found t (told.Character c at) h = subst (λ (r : Result (List Piece) Fault). TellsFault r (told.Character c at)) (whole t) h
fault_found t (told.Number at) h = subst (λ (r : Result (List Piece) Fault). TellsFault r (told.Number at)) (whole t) h
fault_found t (told.Comment at) h = subst (λ (r : Result (List Piece) Fault). TellsFault r (told.Comment at)) (whole t) h
fault_found t told.TooLong h = absurd h
fault_found t told.Memory h = tt

-- why there are no pieces is why there are no tokens
pub faults_found : {A : Type 0} (t : Text) (r : Result A TokenFault) → IfErr r (TellsFault (read_at t gap 0)) → IfErr r (IsFaultOf t)
faults_found t (Ok x) h = tt
faults_found t (Err e) h = fault_found t e h
