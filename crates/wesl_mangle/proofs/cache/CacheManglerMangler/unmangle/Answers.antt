use Rattle.std.proofs.Common.{rules}
use Rattle.wesl_mangle.proofs.cache.CacheManglerMangler.unmangle.Goals as goal

pub returns-in-None-clause-read : goal.returns-in-None-clause-read
returns-in-None-clause-read g c = search rules
