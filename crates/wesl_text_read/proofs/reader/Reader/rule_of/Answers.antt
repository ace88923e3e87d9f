use Rattle.std.proofs.Common.{◌≡◌, Some, None, string_bytes, rules}
use Rattle.wesl_text_read.specs.First.{part_first}
use Rattle.wesl_text_read.specs.Leads.{ahead}
use Rattle.wesl_text_read.proofs.WordLists.{rule_alone, rule_parts}
use Rattle.wesl_text_read.proofs.reader.Reader.rule_of.Goals as goal

pub returns-in-Some : goal.returns-in-Some
returns-in-Some c =
    let first : part_first (ahead c.args.self.now) ≡ Some c.in-Some.part.now = search rules in
    rule_parts c.args.word.now c.in-Some.part.now (string_bytes c.dotted.result) first c.step.ensures.skips c.step-in-Some.ensures.skips c.dotted.ensures

pub returns-in-None : goal.returns-in-None
returns-in-None c =
    let first : part_first (ahead c.args.self.now) ≡ None = search rules in
    rule_alone c.args.word.now (string_bytes c.own.result) first c.own.ensures
