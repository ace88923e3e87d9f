use Rattle.std.proofs.Common.{rules}
use Rattle.wesl_example_traits.proofs.mangler.PrefixedMangler.mangle.Goals as goal

pub returns-clause-named : goal.returns-clause-named
returns-clause-named g c = search rules
