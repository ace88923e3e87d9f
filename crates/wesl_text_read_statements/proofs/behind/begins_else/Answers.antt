use Rattle.std.proofs.Common.{refl}
use Rattle.wesl_text_form.specs.Productions.{an_else}
use Rattle.wesl_text_read_ahead.specs.Ahead.{tokens_of}
use Rattle.wesl_text_read_statements.proofs.Seen.{foreseen}
use Rattle.wesl_text_read_statements.proofs.behind.begins_else.Goals as goal

pub returns : goal.returns
returns c = foreseen an_else c.word_begins.result (tokens_of c.peek_behind-behind.result.now) refl c.word_begins.ensures c.peek_behind-behind.ensures
