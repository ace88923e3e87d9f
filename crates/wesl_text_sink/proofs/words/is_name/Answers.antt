use Rattle.std.proofs.Common.{sym}
use Rattle.wesl_text_sink.proofs.Spelled.{no_name}
use Rattle.wesl_text_sink.proofs.words.is_name.Goals as goal

pub returns-else-is_free : goal.returns-else-is_free
returns-else-is_free c = no_name c.args.text.now (sym c.if-is_free.ensures)
