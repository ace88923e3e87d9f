use Rattle.std.proofs.Common.{◌∙◌, ap, sym, map, Some, List, Option}
use Rattle.wesl_text_tokens.specs.Tokens.{Token, name}
use Rattle.wesl_text_tokens.specs.Views.{token_of}
use Rattle.wesl_text_tokens.specs.declared.token.PlacedToken.{PlacedToken}
use Rattle.wesl_text_form.specs.Names.{is_alone}
use Rattle.wesl_text_sink.specs.Words.{is_plain_name}
use Rattle.wesl_text_sink.proofs.Plain.{plain_word}
use Rattle.wesl_text_sink.proofs.Spelled.{tokens_read}
use Rattle.wesl_text_sink.proofs.words.is_word.Goals as goal

pub returns-in-Ok : goal.returns-in-Ok
returns-in-Ok c =
    c.is_name_alone.ensures
    ∙ ap (λ (ts : List PlacedToken). is_alone (name c.args.text.now) (Some (map (λ p. token_of p.token) ts))) c.as_slice.ensures.value
    ∙ sym (ap (λ (o : Option (List Token)). is_alone (name c.args.text.now) o) (tokens_read c.args.text.now c.in-Ok.tokens.items c.in-Ok.ensures.tokens))

pub returns-then-is_plain_name : goal.returns-then-is_plain_name
returns-then-is_plain_name c = sym (plain_word c.args.text.now (ap is_plain_name (sym c.as_bytes.ensures.value) ∙ sym c.if-is_plain_name.ensures))
