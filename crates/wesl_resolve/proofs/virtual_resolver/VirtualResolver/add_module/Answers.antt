use Rattle.std.proofs.Common.{rules}
use Rattle.wesl_resolve.proofs.virtual_resolver.VirtualResolver.add_module.Goals as goal

pub returns-clause-added : goal.returns-clause-added
returns-clause-added g c = search rules

pub returns-clause-last : goal.returns-clause-last
returns-clause-last g c = search rules
