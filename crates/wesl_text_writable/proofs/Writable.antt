-- What a text says can be printed, and what is printed says it.
use Rattle.std.proofs.Common.{◌≡◌, Bool, true, ◌&&◌, if◌then◌else◌, List, [], ◌∷◌, Option, Some, None, option_and_then, is_some, refl, sym as turned, ap, ◌∙◌, subst, false}
use Rattle.wesl_tree_syntax.specs.Unit.{forest_of_unit}
use Rattle.wesl_text_tokens.specs.Tokens.{Token, tokens_of_bits}
use Rattle.wesl_text_form.specs.Slots.{Slot, fewest}
use Rattle.wesl_text_form.specs.Spelling.{Slots, slots, unit_row}
use Rattle.wesl_text_form.specs.Says.{Says, are_read_as_meant, bits_apart, same_tokens, as_meant}
use Rattle.wesl_text_reading.proofs.Filled.{no_some, of_some}
use Rattle.wesl_text_writable.specs.Laws.{SaidAreWritable, SpellingsSay}
use Rattle.wesl_text_writable.proofs.Clear.{is_clear_before, are_clear, same_self}
use Rattle.wesl_text_writable.proofs.ClearTrees.{rows_are_clear}
use Rattle.wesl_text_writable.proofs.Fewest.{fewest_say}
use Rattle.wesl_text_writable.proofs.Quiet.{filled_quiet}
use Rattle.wesl_text_writable.proofs.MadeApart.{AreMeant, text_meant, meant_apart}
use Rattle.wesl_text_writable.proofs.Printed.{fewest_meant}

pub same_all : (ts : List Token) → same_tokens ts ts ≡ true
same_all [] = refl
same_all (t ∷ ts) = ap (λ z. z && same_tokens ts ts) (same_self t) ∙ same_all ts

pub said_are_writable : SaidAreWritable
said_are_writable t u says =
    let ts : List Token = says.0 in
    let ss : List Slot = says.2.0 in
    let c : is_clear_before true ss ≡ true = ap (are_clear true) (turned says.2.1) ∙ rows_are_clear (forest_of_unit u) unit_row true refl in
    let m : AreMeant (fewest ss) = fewest_meant ss ts c says.2.2 (text_meant t ts says.1 (filled_quiet ss ts c says.2.2)) in
    let r : same_tokens (tokens_of_bits (bits_apart (fewest ss))) (fewest ss) ≡ true = ap (λ z. same_tokens z (fewest ss)) (meant_apart (fewest ss) m) ∙ same_all (fewest ss) in
    ap (λ o. is_some (option_and_then as_meant o)) says.2.1 ∙ ap (λ (b : Bool). let o : Option (List Token) = if b then Some (fewest ss) else None in is_some o) r

pub spellings_say : SpellingsSay
spellings_say u ts h = by (slots u) refl h where
  meant : (ss : List Slot) → slots u ≡ Some ss → (b : Bool) → (if b then Some (fewest ss) else None) ≡ Some ts → Says ts u
  meant ss e true g = subst (λ z. Says z u) (of_some (fewest ss) ts g) (fewest_say u ss e)
  meant ss e false g = absurd (no_some ts g)

  by : (o : Slots) → slots u ≡ o → option_and_then as_meant o ≡ Some ts → Says ts u
  by None e g = absurd (no_some ts g)
  by (Some ss) e g = meant ss e (are_read_as_meant (fewest ss)) g
