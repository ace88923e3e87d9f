use Rattle.std.proofs.Common.{rules}
use Rattle.wesl_mangle.proofs.escape.EscapeManglerMangler.mangle_types.Goals as goal

pub returns-clause-named : goal.returns-clause-named
returns-clause-named c = search rules
