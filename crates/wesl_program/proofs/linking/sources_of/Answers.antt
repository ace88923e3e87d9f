use Rattle.std.proofs.Common.{map}
use Rattle.wesl_program_bundle.specs.PackageViews.{packages_view}
use Rattle.wesl_program_bundle.specs.Views.{module_view}
use Rattle.wesl_program.proofs.Found.{bundle-held}
use Rattle.wesl_program.proofs.linking.sources_of.Goals as goal

pub returns : goal.returns
returns c = record {
  held = bundle-held (packages_view c.args.packages.items) (map module_view c.args.listed.items) (record { modules = c.in_ok-modules.modules; packages = c.in_ok-packages.packages }) c.in_ok-modules.ensures.held c.in_ok-packages.ensures.held;
}
