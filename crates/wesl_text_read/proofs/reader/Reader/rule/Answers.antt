use Rattle.std.proofs.Common.{◌≡◌, Some, None, string_bytes, rules}
use Rattle.wesl_text_read.specs.First.{word_first}
use Rattle.wesl_text_read.specs.Leads.{ahead}
use Rattle.wesl_text_read.proofs.WordLists.{no_rule_read, rule_read}
use Rattle.wesl_text_read.proofs.reader.Reader.rule.Goals as goal

pub returns-in-Some : goal.returns-in-Some
returns-in-Some c =
    let first : word_first (ahead c.args.self.now) ≡ Some c.in-Some.word.now = search rules in
    rule_read c.in-Some.word.now (string_bytes c.rule_of.result) first c.step.ensures.skips c.rule_of.ensures

pub returns-in-None : goal.returns-in-None
returns-in-None c =
    let first : word_first (ahead c.args.self.now) ≡ None = search rules in
    no_rule_read (string_bytes c.new.result) first c.wrong.ensures
