use Rattle.std.proofs.Common.{refl}
use Rattle.wesl_text_form.specs.Productions.{an_else_if}
use Rattle.wesl_text_read_ahead.specs.Ahead.{tokens_of}
use Rattle.wesl_text_read_statements.proofs.Seen.{foreseen}
use Rattle.wesl_text_read_statements.proofs.behind.begins_else_if.Goals as goal

pub returns : goal.returns
returns c = foreseen an_else_if c.words_begin.result (tokens_of c.peek_behind-behind.result.now) refl c.words_begin.ensures c.peek_behind-behind.ensures
