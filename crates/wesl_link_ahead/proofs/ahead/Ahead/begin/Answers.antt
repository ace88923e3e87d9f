use Rattle.std.proofs.Common.{refl}
use Rattle.wesl_link_reach.specs.World.Entered.{root}
use Rattle.wesl_link_ahead.proofs.ahead.Ahead.begin.Goals as goal

pub enter-requires-clause-entered : goal.enter-requires-clause-entered
enter-requires-clause-entered c = root c.args.linking.now.root refl
