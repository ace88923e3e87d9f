use Rattle.std.proofs.Common.{◌≡◌, Some, None, string_bytes, rules}
use Rattle.wesl_text_read.specs.First.{word_first}
use Rattle.wesl_text_read.specs.Leads.{ahead}
use Rattle.wesl_text_read.proofs.WordLists.{no_word_read, word_read}
use Rattle.wesl_text_read.proofs.reader.Reader.word.Goals as goal

pub returns-in-Some : goal.returns-in-Some
returns-in-Some c =
    let first : word_first (ahead c.args.self.now) ≡ Some c.in-Some.word.now = search rules in
    word_read c.in-Some.word.now (string_bytes c.own.result) first c.step.ensures.skips c.own.ensures

pub returns-in-None : goal.returns-in-None
returns-in-None c =
    let first : word_first (ahead c.args.self.now) ≡ None = search rules in
    no_word_read (string_bytes c.new.result) first c.wrong.ensures
