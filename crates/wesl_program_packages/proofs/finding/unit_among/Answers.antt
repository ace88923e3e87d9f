use Rattle.wesl_tree_names.specs.Path.{path_view}
use Rattle.wesl_resolve_base.proofs.PackagesLemmas.{said, found-as, missing-as}
use Rattle.wesl_program_packages.proofs.Ways.{among-nothing, among-step, among-stuck}
use Rattle.wesl_program_packages.proofs.finding.unit_among.Goals as goal

pub returns-in_default-clause-missing : goal.returns-in_default-clause-missing
returns-in_default-clause-missing c =
    said (path_view c.args.path.now) _ _ c.missing_package.result (among-nothing c.args.whole.now c.args.packages.now c.args.parts.now (path_view c.args.path.now).components c.in_default.ensures.cases) c.missing_package.ensures

pub returns-in-Some-get-clause-found : goal.returns-in-Some-get-clause-found
returns-in-Some-get-clause-found c =
    let step = among-step c.args.whole.now c.args.packages.now c.args.parts.now (path_view c.args.path.now).components c.in-Some-get.«package».now c.in-Some.others.now c.in-Some.first.now c.in-Some.ensures.cases c.in-Some-get.ensures.value in
    found-as _ _ _ step c.unit_in.result c.unit_in.ensures.found

pub returns-in-Some-get-clause-missing : goal.returns-in-Some-get-clause-missing
returns-in-Some-get-clause-missing c =
    let step = among-step c.args.whole.now c.args.packages.now c.args.parts.now (path_view c.args.path.now).components c.in-Some-get.«package».now c.in-Some.others.now c.in-Some.first.now c.in-Some.ensures.cases c.in-Some-get.ensures.value in
    missing-as (path_view c.args.path.now) _ _ step c.unit_in.result c.unit_in.ensures.missing

pub returns-in-None-clause-missing : goal.returns-in-None-clause-missing
returns-in-None-clause-missing c =
    let stuck = among-stuck c.args.whole.now c.args.packages.now c.args.parts.now (path_view c.args.path.now).components c.in-Some.others.now c.in-Some.first.now c.in-Some.ensures.cases c.in-None.ensures.value in
    said (path_view c.args.path.now) _ _ c.missing_package-in-None.result stuck c.missing_package-in-None.ensures
