use Rattle.std.proofs.Common.{refl, rules}
use Rattle.wesl_text_read.proofs.Naming.{numbered}
use Rattle.wesl_text_read_simple.proofs.expressed.number_of.Goals as goal

pub returns-in-Ok : goal.returns-in-Ok
returns-in-Ok c = numbered _ _ _ _ refl refl refl (search rules) (search rules)
