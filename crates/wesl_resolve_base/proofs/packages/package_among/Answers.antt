use Rattle.wesl_tree_names.specs.Path.{path_view}
use Rattle.wesl_resolve_base.proofs.PackagesLemmas.{said, found-as, missing-as, package_at-step, package_at-stuck, package_at-nothing}
use Rattle.wesl_resolve_base.proofs.packages.package_among.Goals as goal

pub returns-in_default-clause-missing : goal.returns-in_default-clause-missing
returns-in_default-clause-missing c =
    said (path_view c.args.path.now) _ _ c.missing_package.result (package_at-nothing c.args.packages.now c.args.whole.now c.args.parts.now c.in_default.ensures.cases) c.missing_package.ensures

pub returns-in-Some-package_named-clause-found : goal.returns-in-Some-package_named-clause-found
returns-in-Some-package_named-clause-found c =
    let step = package_at-step c.args.packages.now c.args.whole.now c.args.parts.now c.in-Some.others.now c.in-Some.first.now c.in-Some-package_named.«package».now c.in-Some.ensures.cases c.in-Some-package_named.ensures in
    found-as _ _ _ step c.package_below.result c.package_below.ensures.found

pub returns-in-Some-package_named-clause-missing : goal.returns-in-Some-package_named-clause-missing
returns-in-Some-package_named-clause-missing c =
    let step = package_at-step c.args.packages.now c.args.whole.now c.args.parts.now c.in-Some.others.now c.in-Some.first.now c.in-Some-package_named.«package».now c.in-Some.ensures.cases c.in-Some-package_named.ensures in
    missing-as (path_view c.args.path.now) _ _ step c.package_below.result c.package_below.ensures.missing

pub returns-in-None-clause-missing : goal.returns-in-None-clause-missing
returns-in-None-clause-missing c =
    let stuck = package_at-stuck c.args.packages.now c.args.whole.now c.args.parts.now c.in-Some.others.now c.in-Some.first.now c.in-Some.ensures.cases c.in-None.ensures in
    said (path_view c.args.path.now) _ _ c.missing_package-in-None.result stuck c.missing_package-in-None.ensures
