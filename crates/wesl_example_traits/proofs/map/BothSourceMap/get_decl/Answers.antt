use Rattle.std.proofs.Common.{rules}
use Rattle.wesl_example_traits.proofs.map.BothSourceMap.get_decl.Goals as goal

pub returns-in-Some : goal.returns-in-Some
returns-in-Some g c = search rules
