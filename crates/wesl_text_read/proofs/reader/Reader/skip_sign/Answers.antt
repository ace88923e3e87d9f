use Rattle.std.proofs.Common.{◌≡◌, true, false, refl, rules}
use Rattle.wesl_text_tokens.specs.Tokens.{symbol}
use Rattle.wesl_text_reading.specs.FirstTokens.{begins_sign}
use Rattle.wesl_text_read.specs.Leads.{ahead}
use Rattle.wesl_text_read.proofs.First.{no-token-behind, token-behind}
use Rattle.wesl_text_read.proofs.Leading.{nothing_there, seen}
use Rattle.wesl_text_read.proofs.reader.Reader.skip_sign.Goals as goal

pub returns-then-begins_sign : goal.returns-then-begins_sign
returns-then-begins_sign c =
    let is : begins_sign c.args.sign (ahead c.args.self.now) ≡ true = search rules in
    seen (λ ns. token-behind (symbol c.args.sign) (ahead c.args.self.now) is) (λ ns. refl) c.step.ensures.skips

pub returns-else-begins_sign : goal.returns-else-begins_sign
returns-else-begins_sign c =
    let is : begins_sign c.args.sign (ahead c.args.self.now) ≡ false = search rules in
    nothing_there c.wrong.ensures (λ ns. no-token-behind (symbol c.args.sign) (ahead c.args.self.now) is)
