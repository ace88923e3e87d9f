use Rattle.wesl_tree_base.specs.Pieces.{cut, slash}
use Rattle.wesl_program_bundle.specs.PackageViews.{packages_view}
use Rattle.wesl_program_packages.proofs.ByName.{among-held}
use Rattle.wesl_program_packages.proofs.held.HeldPackages.new.Goals as goal

pub returns : goal.returns
returns c = record { held = λ name components. among-held (packages_view c.args.packages.items) c.in_ok-named.named c.in_ok-named.ensures.held name (cut slash name) components }
