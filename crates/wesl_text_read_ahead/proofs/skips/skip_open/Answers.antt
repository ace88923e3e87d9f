use Rattle.std.proofs.Common.{◌≡◌, true, false, refl, rules}
use Rattle.wesl_text_tokens.specs.Tokens.{open_list}
use Rattle.wesl_text_form.specs.Slots.{comes_first}
use Rattle.wesl_text_read.specs.Leads.{ahead}
use Rattle.wesl_text_read.proofs.First.{no-token-behind, token-behind}
use Rattle.wesl_text_read.proofs.Leading.{nothing_there, seen}
use Rattle.wesl_text_read_ahead.proofs.skips.skip_open.Goals as goal

pub returns-then-opens_list : goal.returns-then-opens_list
returns-then-opens_list c =
    let is : comes_first open_list (ahead c.args.reader.now) ≡ true = search rules in
    seen (λ ns. token-behind open_list (ahead c.args.reader.now) is) (λ ns. refl) c.step.ensures.skips

pub returns-else-opens_list : goal.returns-else-opens_list
returns-else-opens_list c =
    let is : comes_first open_list (ahead c.args.reader.now) ≡ false = search rules in
    nothing_there c.wrong.ensures (λ ns. no-token-behind open_list (ahead c.args.reader.now) is)
