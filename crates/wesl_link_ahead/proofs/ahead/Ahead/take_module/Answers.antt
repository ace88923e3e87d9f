use Rattle.std.proofs.Common.{refl}
use Rattle.wesl_link_reach.specs.World.Followed.{by_assert}
use Rattle.wesl_link_ahead.proofs.ahead.Ahead.take_module.Goals as goal

pub take-requires-clause-followed : goal.take-requires-clause-followed
take-requires-clause-followed c = λ l asks. by_assert c.args.table.now.path c.args.table.now l c.requires.entered (c.requires.there, refl) asks
