use Rattle.std.proofs.Common.{inr}
use Rattle.wesl_text_program.proofs.lines.unread_line.Goals as goal

pub returns-in-Ok : goal.returns-in-Ok
returns-in-Ok c = inr (_, c.in-Ok.ensures)
