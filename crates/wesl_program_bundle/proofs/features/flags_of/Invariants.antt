use Rattle.std.proofs.Common.{◌≡◌, List, ◌++◌}
use Rattle.serde_json.specs.View.{view}
use Rattle.serde_json.proofs.Views.{Entry}
use Rattle.wesl_program_bundle.proofs.Flags.{AreFlags}
use Rattle.wesl_program_bundle.proofs.features.flags_of.Given as goal

abbrev pub invariant-loop-name : goal.invariant-loop-name
invariant-loop-name l = (done : List Entry) × (l.initial.name-iterator ≡ done ++ l.name-iterator) × AreFlags (view l.value) done l.flags
