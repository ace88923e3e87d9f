use Rattle.std.proofs.Common.{◌≡◌, true, false, refl, rules}
use Rattle.wesl_text_tokens.specs.Tokens.{name}
use Rattle.wesl_text_reading.specs.FirstTokens.{begins_word}
use Rattle.wesl_text_read.specs.Leads.{ahead}
use Rattle.wesl_text_read.proofs.First.{no-token-behind, token-behind}
use Rattle.wesl_text_read.proofs.Leading.{nothing_there, seen}
use Rattle.wesl_text_read_ahead.proofs.skips.skip_word.Goals as goal

pub returns-then-begins_word : goal.returns-then-begins_word
returns-then-begins_word c =
    let is : begins_word c.args.word.now (ahead c.args.reader.now) ≡ true = search rules in
    seen (λ ns. token-behind (name c.args.word.now) (ahead c.args.reader.now) is) (λ ns. refl) c.step.ensures.skips

pub returns-else-begins_word : goal.returns-else-begins_word
returns-else-begins_word c =
    let is : begins_word c.args.word.now (ahead c.args.reader.now) ≡ false = search rules in
    nothing_there c.wrong.ensures (λ ns. no-token-behind (name c.args.word.now) (ahead c.args.reader.now) is)
