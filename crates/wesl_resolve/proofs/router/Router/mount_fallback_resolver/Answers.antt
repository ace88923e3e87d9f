use Rattle.std.proofs.Common.{rules}
use Rattle.wesl_resolve.proofs.router.Router.mount_fallback_resolver.Goals as goal

pub returns-clause-fallback : goal.returns-clause-fallback
returns-clause-fallback g c = search rules

pub returns-clause-ready : goal.returns-clause-ready
returns-clause-ready g c = search rules
