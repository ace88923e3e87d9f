use Rattle.std.proofs.Common.{◌≡◌, true, false, rules}
use Rattle.wesl_text_tokens.specs.declared.symbol.Symbol.TheVariants as is
use Rattle.wesl_text_reading.specs.FirstTokens.{begins_sign}
use Rattle.wesl_text_read.specs.Leads.{ahead}
use Rattle.wesl_text_read.proofs.WordLists.{comma_missing, comma_skipped}
use Rattle.wesl_text_read.proofs.reader.Reader.skip_comma.Goals as goal

pub returns-then-not-begins_sign : goal.returns-then-not-begins_sign
returns-then-not-begins_sign c =
    let first : begins_sign is.Comma (ahead c.args.self.now) ≡ false = search rules in
    comma_missing first

pub returns : goal.returns
returns c =
    let first : begins_sign is.Comma (ahead c.args.self.now) ≡ true = search rules in
    comma_skipped first c.step.ensures.skips
