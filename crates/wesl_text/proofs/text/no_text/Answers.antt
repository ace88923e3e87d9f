use Rattle.std.proofs.Common.{◌≡◌, Err, None, Ok, Result, ap, codes, refl, ◌∙◌}
use Rattle.std.specs.Global.{Global}
use Rattle.std.specs.declared.alloc.AllocError.{AllocError}
use Rattle.std.specs.Prelude.{IfOk, String, string_bytes}
use Rattle.std.specs.Str.{chars}
use Rattle.wesl_text_tokens.specs.Tokens.{tokens}
use Rattle.wesl_text.proofs.text.no_text.Goals as goal

no_tokens : tokens (codes "/*") ≡ None
unfolding chars
no_tokens = refl

pub returns : goal.returns
returns c = by c.from_str.result c.from_str.ensures.ok where
  by : (r : Result (String Global) AllocError) → IfOk r (λ t. string_bytes t ≡ codes "/*") → IfOk r (λ t. tokens (string_bytes t) ≡ None)
  by (Ok t) h = ap tokens h ∙ no_tokens
  by (Err e) h = tt
