use Rattle.std.proofs.Common.{◌+◌, ◌*◌}
use Rattle.serde_json.specs.Data.{depth}
use Rattle.wesl_json_form.specs.View.{borrowed_view}
use Rattle.wesl_program_bundle.specs.Forms.{a_package}
use Rattle.wesl_program_bundle.specs.PackageViews.{package_view}
use Rattle.wesl_program_bundle.specs.Packages.{package_in}
use Rattle.wesl_program_bundle.proofs.Lists.{AreRead}
use Rattle.wesl_program_bundle.proofs.packages.+packages.Given as goal

abbrev pub decreases-packages_member : goal.decreases-packages_member
decreases-packages_member l = 2 * depth (borrowed_view l.value.now)

abbrev pub decreases-package_of : goal.decreases-package_of
decreases-package_of l = 2 * depth (borrowed_view l.value.now) + 1

abbrev pub invariant-packages_member-loop-index : goal.invariant-packages_member-loop-index
invariant-packages_member-loop-index l = AreRead package_view package_in a_package l.key (borrowed_view l.value) l.items l.index l.packages
