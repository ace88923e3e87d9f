use Rattle.std.proofs.Common.{◌≡◌, true, refl, rules}
use Rattle.wesl_text_tokens.specs.declared.symbol.Symbol.TheVariants as is
use Rattle.wesl_text_tokens.specs.Tokens.{symbol}
use Rattle.wesl_text_reading.specs.FirstTokens.{begins_sign}
use Rattle.wesl_text_read.specs.Leads.{ahead}
use Rattle.wesl_text_read.proofs.Leading.{seen}
use Rattle.wesl_text_read_statements.proofs.Seen.{behind-there}
use Rattle.wesl_text_read_statements.proofs.selector.skip_colon.Goals as goal

pub returns-then-begins_sign : goal.returns-then-begins_sign
returns-then-begins_sign c =
    let first : begins_sign is.Colon (ahead c.args.reader.now) ≡ true = search rules in
    seen (λ ns. behind-there (symbol is.Colon) (ahead c.args.reader.now) first) (λ ns. refl) c.step.ensures.skips
