use Rattle.std.proofs.Common.{map}
use Rattle.wesl_program_bundle.specs.Views.{module_view}
use Rattle.wesl_program.specs.Holds.{Holds}
use Rattle.wesl_program.proofs.linking.modules_of.Given as goal

abbrev pub invariant-loop-module : goal.invariant-loop-module
invariant-loop-module l = Holds (map module_view l.yielded) l.modules
