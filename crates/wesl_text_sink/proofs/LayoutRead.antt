-- Laid out text is read as its tokens.
use Rattle.std.proofs.Common.{◌≡◌, Bool, true, false, ◌&&◌, List, [], ◌∷◌, Option, Some, None, refl, sym as turned, ap, ◌∙◌}
use Rattle.std.proofs.lemmas.Bool.{and_parts}
use Rattle.wesl_text_tokens.specs.Tokens.{Token, tokens, tokens_of_bits}
use Rattle.wesl_text_form.specs.Says.{are_read_as_meant, bits_apart, same_tokens}
use Rattle.wesl_text_sink.specs.declared.kind.Kind.{Kind}
use Rattle.wesl_text_sink.specs.Laws.{LayoutIsRead, MisreadIsNotMeant, ReadIsMeant}
use Rattle.wesl_text_sound.proofs.TokensAre.{tokens_of_texts}
use Rattle.wesl_text_sound.specs.Laws.{AreTokens}
use Rattle.wesl_text_sink.specs.Layout.{Laid, are_apart, are_blanks, are_laid, is_spelled, kind_of, laid_tokens}
use Rattle.wesl_text_sink.proofs.Assembled.{laid_bits, tokens_laid}
use Rattle.wesl_text_sink.proofs.Finishing.{all_same, tokens_same}
use Rattle.wesl_text_sink.proofs.Joined.{meant_as_read, read_as_meant}
use Rattle.wesl_text_sink.proofs.Pieces.{token_reads}
use Rattle.wesl_text_sink.proofs.Touched.{AllRead}

all_read : (ls : List Laid) (before : Option Kind) → are_laid before ls ≡ true → AreTokens (laid_tokens ls) → AllRead ls
all_read [] before h g = tt
all_read (l ∷ ls) before h g =
    let x : ((are_blanks l.blanks && is_spelled l.token) ≡ true) × ((are_apart before l.blanks (kind_of l.token) && are_laid (Some (kind_of l.token)) ls) ≡ true) = and_parts _ _ h in
    let spelled : is_spelled l.token ≡ true = (and_parts (are_blanks l.blanks) (is_spelled l.token) x.0).1 in
    let later : are_laid (Some (kind_of l.token)) ls ≡ true = (and_parts (are_apart before l.blanks (kind_of l.token)) (are_laid (Some (kind_of l.token)) ls) x.1).1 in
    (token_reads l.token spelled g.0, all_read ls (Some (kind_of l.token)) later g.1)

one_some : (ts us : List Token) → (let o : Option (List Token) = Some ts in o) ≡ Some us → ts ≡ us
one_some ts us e = cc

pub layout_is_read : LayoutIsRead
layout_is_read ls t h g b =
    let here : tokens t ≡ Some (tokens_of_bits (laid_bits false ls)) = ap tokens b.text ∙ tokens_laid ls b.blanks (all_read ls None h g) h b.are_blanks in
    let apart : List Token = tokens_of_bits (bits_apart (laid_tokens ls)) in (
      λ e.
          let meant : apart ≡ laid_tokens ls = meant_as_read ls h (one_some (tokens_of_bits (laid_bits false ls)) (laid_tokens ls) (turned here ∙ e)) in
          ap (λ (ts : List Token). same_tokens ts (laid_tokens ls)) meant ∙ tokens_same (laid_tokens ls),
      λ e. here ∙ ap (λ (ts : List Token). let o : Option (List Token) = Some ts in o) (read_as_meant ls h (all_same apart (laid_tokens ls) e)),
    )

pub read_is_meant : ReadIsMeant
read_is_meant ls t h u r = (layout_is_read ls t h (tokens_of_texts t (laid_tokens ls) u r.tokens) r.text).0 r.tokens

pub misread_is_not_meant : MisreadIsNotMeant
misread_is_not_meant ls h g m = by (are_read_as_meant (laid_tokens ls)) refl where
  by : (b : Bool) → are_read_as_meant (laid_tokens ls) ≡ b → b ≡ false
  by true e = absurd (m.tokens ((layout_is_read ls m.whole h g m.text).1 e))
  by false e = refl
