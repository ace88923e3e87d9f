use Rattle.std.proofs.Common.{false}
use Rattle.wesl_cond_covers.proofs.Changing.{tells, told}
use Rattle.wesl_cond_covers.proofs.laws.law_of_sights.Goals as goal

pub returns : goal.returns
returns c alive a b places = (told alive a b false 0 places, tells alive a b false 0 places)
