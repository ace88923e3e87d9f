use Rattle.wesl_tree_names.specs.Path.{path_view}
use Rattle.wesl_resolve_base.proofs.PackagesLemmas.{found-as, missing-as}
use Rattle.wesl_program.proofs.Found.{found-own, found-packaged}
use Rattle.wesl_program.proofs.bundle_resolver.BundleSources.value_at.Goals as goal

pub returns-in-Package-clause-found : goal.returns-in-Package-clause-found
returns-in-Package-clause-found c =
    found-as _ _ _ (found-packaged c.args.self.now c.args.path.now c.in-Package.name c.as_str.result.now c.in-Package.is c.as_str.ensures.value) c.unit_at.result c.unit_at.ensures.found

pub returns-in-Package-clause-missing : goal.returns-in-Package-clause-missing
returns-in-Package-clause-missing c =
    missing-as (path_view c.args.path.now) _ _ (found-packaged c.args.self.now c.args.path.now c.in-Package.name c.as_str.result.now c.in-Package.is c.as_str.ensures.value) c.unit_at.result c.unit_at.ensures.missing

pub returns-in_default : goal.returns-in_default
returns-in_default c =
    let same = found-own c.args.self.now c.args.path.now c.in_default.not-Package in
    record {
      found = found-as _ _ _ same c.own_value.result c.own_value.ensures.found;
      missing = missing-as (path_view c.args.path.now) _ _ same c.own_value.result c.own_value.ensures.missing;
    }
