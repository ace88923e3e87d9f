use Rattle.std.proofs.Common.{not, ap, refl}
use Rattle.wesl_text_form.specs.Productions.{a_statement}
use Rattle.wesl_text_read_ahead.specs.Ahead.{tokens_of}
use Rattle.wesl_text_read_statements.proofs.Seen.{foreseen}
use Rattle.wesl_text_read_statements.proofs.behind.begins_statement.Goals as goal

pub returns : goal.returns
returns c = foreseen a_statement (not c.ends_block.result) (tokens_of c.peek_behind-behind.result.now) refl (ap not c.ends_block.ensures) c.peek_behind-behind.ensures
