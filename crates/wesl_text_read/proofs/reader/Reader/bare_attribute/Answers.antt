use Rattle.std.proofs.Common.{◌≡◌, Some, None, rules}
use Rattle.wesl_tree_syntax.specs.View.{attribute_view}
use Rattle.wesl_text_read.specs.First.{word_first}
use Rattle.wesl_text_read.specs.Leads.{ahead}
use Rattle.wesl_text_read.proofs.Attributes.{attribute_begins, no_attribute}
use Rattle.wesl_text_read.proofs.reader.Reader.bare_attribute.Goals as goal

pub returns-in-Some : goal.returns-in-Some
returns-in-Some c =
    let first : word_first (ahead c.step.new.self) ≡ Some c.in-Some.word.now = search rules in
    attribute_begins c.in-Some.word.now (attribute_view c.attribute_of.result) c.requires first c.step.ensures.ahead c.step.ensures.skips c.step-in-Some.ensures.skips c.attribute_of.ensures

pub returns-in-None : goal.returns-in-None
returns-in-None c =
    let first : word_first (ahead c.step.new.self) ≡ None = search rules in
    no_attribute c.requires first c.step.ensures.ahead c.step.ensures.skips c.wrong.ensures
