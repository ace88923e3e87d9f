use Rattle.std.proofs.Common.{rules}
use Rattle.wesl_mangle.proofs.hash.HashManglerMangler.mangle.Goals as goal

pub returns-clause-named : goal.returns-clause-named
returns-clause-named g c = search rules
