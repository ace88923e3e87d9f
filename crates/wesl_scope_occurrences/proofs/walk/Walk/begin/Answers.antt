use Rattle.std.proofs.Common.{refl}
use Rattle.wesl_scope_occurrences.proofs.Steps.{alone}
use Rattle.wesl_scope_occurrences.proofs.walk.Walk.begin.Goals as goal

pub returns : goal.returns
returns g c =
    alone refl c.begin.ensures
