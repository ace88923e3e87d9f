use Rattle.std.proofs.Common.{◌≡◌, true, rules}
use Rattle.wesl_text_tokens.specs.declared.symbol.Symbol.TheVariants as is
use Rattle.wesl_text_reading.specs.FirstTokens.{begins_sign}
use Rattle.wesl_text_read.specs.Leads.{ahead}
use Rattle.wesl_text_read.proofs.Lists.{comma_read}
use Rattle.wesl_text_read.proofs.reader.Reader.next_expression.Goals as goal

pub returns : goal.returns
returns c =
    let is : begins_sign is.Comma (ahead c.args.self.now) ≡ true = search rules in
    comma_read _ is c.begins_expression.ensures c.step.ensures.skips
