use Rattle.wesl_text_read_simple.proofs.Memory.{access_there}
use Rattle.wesl_text_read_simple.proofs.kind.read_access.Goals as goal

pub returns-in-Some : goal.returns-in-Some
returns-in-Some c = access_there c.step.ensures.skips c.in-Some.access c.in-Some.ensures.text
