use Rattle.wesl_link_reach.specs.World.Followed.{by_symbol}
use Rattle.wesl_link_ahead.proofs.ahead.Ahead.take_symbol.Goals as goal

pub take-requires-clause-followed : goal.take-requires-clause-followed
take-requires-clause-followed c = λ l asks. by_symbol c.args.symbol c.in-Some.table.now l (c.requires.ahead.reached c.args.symbol c.requires.reached) c.in-Some.ensures asks
