use Rattle.std.proofs.Common.{◌≡◌, Some, true, false, refl, rules}
use Rattle.std.specs.Option.{option_map}
use Rattle.wesl_text_form.specs.Names.{is_free}
use Rattle.wesl_text_read.specs.First.{word_first}
use Rattle.wesl_text_read.specs.Leads.{ahead}
use Rattle.wesl_text_read.proofs.First.{word-free, word-taken}
use Rattle.wesl_text_read.proofs.Leading.{seen, under}
use Rattle.wesl_text_read.proofs.reader.Reader.free_name.Goals as goal

pub returns-then-is_free-clause-read : goal.returns-then-is_free-clause-read
returns-then-is_free-clause-read c =
    let first : word_first (ahead c.args.self.now) ≡ Some c.in-Some.word.now = search rules in
    let free : is_free c.in-Some.word.now ≡ true = search rules in
    seen (λ ns. word-free c.in-Some.word.now (ahead c.args.self.now) first free) (λ ns. refl) (under (λ ns o. option_map (λ us. (c.in-Some.word.now, us)) o) (λ ns. refl) c.step.ensures.skips)

pub returns-else-is_free-clause-nothing : goal.returns-else-is_free-clause-nothing
returns-else-is_free-clause-nothing c =
    let first : word_first (ahead c.args.self.now) ≡ Some c.in-Some.word.now = search rules in
    let free : is_free c.in-Some.word.now ≡ false = search rules in
    word-taken c.in-Some.word.now (ahead c.args.self.now) first free
