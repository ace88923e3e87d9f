use Rattle.wesl_json_form.specs.View.{borrowed_view}
use Rattle.wesl_program_bundle.specs.Bundle.{module_in}
use Rattle.wesl_program_bundle.specs.Forms.{a_module}
use Rattle.wesl_program_bundle.specs.Views.{module_view}
use Rattle.wesl_program_bundle.proofs.Lists.{AreRead}
use Rattle.wesl_program_bundle.proofs.bundle.modules_member.Given as goal

abbrev pub invariant-loop-index : goal.invariant-loop-index
invariant-loop-index l = AreRead module_view module_in a_module l.key (borrowed_view l.value) l.items l.index l.modules
