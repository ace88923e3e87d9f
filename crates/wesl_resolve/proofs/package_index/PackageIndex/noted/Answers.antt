use Rattle.std.proofs.Common.{◌∙◌, sym, ap}
use Rattle.wesl_resolve.specs.Places.{module_standing}
use Rattle.wesl_resolve.proofs.Placing.{noted-lent}
use Rattle.wesl_resolve.proofs.package_index.PackageIndex.noted.Goals as goal

pub returns-in-Some : goal.returns-in-Some
returns-in-Some c =
    noted-lent c.args.packages.now.items c.args.self.now.places c.requires.noted c.args.path.now c.in-Some.place.now c.module_standing.result (sym c.in-Some.ensures.value) (c.module_standing.ensures ∙ ap (module_standing c.args.packages.now.items) c.deref.ensures.value)
