use Rattle.std.proofs.Common.{◌+◌, ◌*◌}
use Rattle.serde_json.specs.Data.{depth}
use Rattle.wesl_json_form.specs.View.{borrowed_view}
use Rattle.wesl_program_bundle.specs.Forms.{a_package_module}
use Rattle.wesl_program_bundle.specs.PackageViews.{package_module_view}
use Rattle.wesl_program_bundle.specs.Packages.{package_module_in}
use Rattle.wesl_program_bundle.proofs.Lists.{AreRead}
use Rattle.wesl_program_bundle.proofs.packages.+modules.Given as goal

abbrev pub decreases-modules_member : goal.decreases-modules_member
decreases-modules_member l = 3 * depth (borrowed_view l.value.now)

abbrev pub decreases-module_members : goal.decreases-module_members
decreases-module_members l = 3 * depth (borrowed_view l.value.now) + 1

abbrev pub decreases-module_of : goal.decreases-module_of
decreases-module_of l = 3 * depth (borrowed_view l.value.now) + 2

abbrev pub invariant-modules_member-loop-index : goal.invariant-modules_member-loop-index
invariant-modules_member-loop-index l = AreRead package_module_view package_module_in a_package_module l.key (borrowed_view l.value) l.items l.index l.modules
