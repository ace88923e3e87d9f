use Rattle.std.proofs.Common.{sym}
use Rattle.wesl_cond_chains.proofs.Voids.{not_void}
use Rattle.wesl_cond_chains.proofs.nodes.SpannedStatementConditional.is_void.Goals as goal

pub returns-in_default : goal.returns-in_default
returns-in_default c = sym (not_void c.args.self.now.node c.in_default.not-Void)
