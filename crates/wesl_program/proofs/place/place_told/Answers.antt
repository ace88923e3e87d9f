use Rattle.std.proofs.Common.{inr}
use Rattle.wesl_program.proofs.place.place_told.Goals as goal

pub returns-then-refusal : goal.returns-then-refusal
returns-then-refusal c = inr (c.if-refusal.true, c.error_place.ensures)
