use Rattle.std.proofs.Common.{◌∙◌, ap, sym, map, List, Option}
use Rattle.wesl_text_tokens.specs.Tokens.{Token}
use Rattle.wesl_text_tokens.specs.Views.{token_of}
use Rattle.wesl_text_tokens.specs.declared.token.PlacedToken.{PlacedToken}
use Rattle.wesl_text_form.specs.Says.{same_tokens}
use Rattle.wesl_text_sink.specs.Finished.{are_read, tokens_at}
use Rattle.wesl_text_sink.proofs.Spelled.{tokens_read}
use Rattle.wesl_text_sink.proofs.reading.is_read_as.Goals as goal

pub returns-in-Ok : goal.returns-in-Ok
returns-in-Ok c =
    c.are_marked.ensures
    ∙ ap (λ (ts : List PlacedToken). same_tokens (map (λ p. token_of p.token) ts) (tokens_at c.args.text.now c.args.marks.now)) c.as_slice.ensures.value
    ∙ sym (ap (λ (o : Option (List Token)). are_read o (tokens_at c.args.text.now c.args.marks.now)) (tokens_read c.args.text.now c.in-Ok.tokens.items c.in-Ok.ensures.tokens))
