use Rattle.std.proofs.Common.{◌≡◌, ◌∙◌, Some, rules}
use Rattle.wesl_text_read.specs.First.{word_first}
use Rattle.wesl_text_read_ahead.specs.Ahead.{tokens_of}
use Rattle.wesl_text_read_simple.proofs.FirstParts.{word-told}
use Rattle.wesl_text_read_simple.proofs.starts.statement_start.Goals as goal

pub returns-in-Some : goal.returns-in-Some
returns-in-Some c =
    let first : word_first (tokens_of c.args.tokens.now) ≡ Some c.in-Some.word.now = search rules in
    c.word_start.ensures ∙ word-told c.in-Some.word.now (tokens_of c.args.tokens.now) first
