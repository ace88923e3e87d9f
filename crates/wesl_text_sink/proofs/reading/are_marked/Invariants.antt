use Rattle.std.proofs.Common.{◌≡◌, drop, map}
use Rattle.wesl_text_form.specs.Says.{same_tokens}
use Rattle.wesl_text_tokens.specs.Views.{token_of}
use Rattle.wesl_text_sink.specs.Finished.{tokens_at}
use Rattle.wesl_text_sink.proofs.reading.are_marked.Given as goal

abbrev pub invariant-loop-index : goal.invariant-loop-index
invariant-loop-index l =
    same_tokens (map (λ p. token_of p.token) l.tokens) (tokens_at l.text l.marks) ≡ same_tokens (map (λ p. token_of p.token) (drop l.index l.tokens)) (tokens_at l.text (drop l.index l.marks))
