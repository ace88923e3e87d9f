use Rattle.std.proofs.Common.{arith}
use Rattle.wesl_link_reach.proofs.reached.Symbols.len.Goals as goal

pub returns-clause-small : goal.returns-clause-small
returns-clause-small c = omega (arith, c.self.inside.found.ok.1, c.self.inside.found.small, c.len.ensures)
