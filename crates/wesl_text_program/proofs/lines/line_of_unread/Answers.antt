use Rattle.wesl_program.specs.Made.{bytes_of}
use Rattle.wesl_text_program.proofs.Telling.{unread-told}
use Rattle.wesl_text_program.proofs.lines.line_of_unread.Goals as goal

pub returns-in-Some : goal.returns-in-Some
returns-in-Some c = unread-told c.args.diagnostic.now c.in-Some.told.now c.in-Some.ensures (bytes_of c.unread_line.result) c.unread_line.ensures
