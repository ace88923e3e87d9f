use Rattle.std.proofs.Common.{◌≡◌, Some, None, rules}
use Rattle.wesl_tree_names.specs.Path.{path_view}
use Rattle.wesl_tree_syntax.specs.Tree.{path}
use Rattle.wesl_text_read.specs.First.{word_first}
use Rattle.wesl_text_read.specs.Leads.{ahead}
use Rattle.wesl_text_read.proofs.Paths.{path_begins, word-there}
use Rattle.wesl_text_read.proofs.reader.Reader.path.Goals as goal

pub returns-in-Some : goal.returns-in-Some
returns-in-Some c =
    let first : word_first (ahead c.args.self.now) ≡ Some c.in-Some.word.now = search rules in
    path_begins _ (path (path_view c.path_behind.result)) c.requires first c.step.ensures.skips c.step-in-Some.ensures.skips c.path_behind.ensures

pub returns-in-None : goal.returns-in-None
returns-in-None c =
    let first : word_first (ahead c.args.self.now) ≡ None = search rules in
    word-there (ahead c.args.self.now) c.requires first
