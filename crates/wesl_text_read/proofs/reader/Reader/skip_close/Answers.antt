use Rattle.std.proofs.Common.{◌≡◌, true, false, refl, rules}
use Rattle.wesl_text_tokens.specs.Tokens.{close_list}
use Rattle.wesl_text_form.specs.Slots.{comes_first}
use Rattle.wesl_text_read.specs.Leads.{ahead}
use Rattle.wesl_text_read.proofs.First.{no-token-behind, token-behind}
use Rattle.wesl_text_read.proofs.Leading.{nothing_there, seen}
use Rattle.wesl_text_read.proofs.reader.Reader.skip_close.Goals as goal

pub returns-then-closes_list : goal.returns-then-closes_list
returns-then-closes_list c =
    let is : comes_first close_list (ahead c.args.self.now) ≡ true = search rules in
    seen (λ ns. token-behind close_list (ahead c.args.self.now) is) (λ ns. refl) c.step.ensures.skips

pub returns-else-closes_list : goal.returns-else-closes_list
returns-else-closes_list c =
    let is : comes_first close_list (ahead c.args.self.now) ≡ false = search rules in
    nothing_there c.wrong.ensures (λ ns. no-token-behind close_list (ahead c.args.self.now) is)
