use Rattle.std.proofs.Common.{inr}
use Rattle.wesl_text.proofs.text.diagnostic_of.Goals as goal

pub returns-in-Ok : goal.returns-in-Ok
returns-in-Ok c = inr (c.in-Ok.reason, c.at_place.ensures)
