use Rattle.wesl_tree_names.specs.Path.{path_view}
use Rattle.wesl_resolve_base.proofs.PackagesLemmas.{said, found-as, missing-as}
use Rattle.wesl_program_packages.proofs.Ways.{below-step, below-stuck}
use Rattle.wesl_program_packages.proofs.finding.+unit_below.Goals as goal

pub returns-in-Some-get-clause-found : goal.returns-in-Some-get-clause-found
returns-in-Some-get-clause-found t c =
    let step = below-step c.args.«module».now c.in-Some-get.next.now c.args.components.now c.in-Some.others.now c.in-Some.first.now c.as_str-name.result.now c.in-Some.ensures.cases c.as_str-name.ensures.value c.in-Some-get.ensures.value in
    found-as _ _ _ step c.unit_below.result c.unit_below.ensures.found

pub returns-in-Some-get-clause-missing : goal.returns-in-Some-get-clause-missing
returns-in-Some-get-clause-missing t c =
    let step = below-step c.args.«module».now c.in-Some-get.next.now c.args.components.now c.in-Some.others.now c.in-Some.first.now c.as_str-name.result.now c.in-Some.ensures.cases c.as_str-name.ensures.value c.in-Some-get.ensures.value in
    missing-as (path_view c.args.path.now) _ _ step c.unit_below.result c.unit_below.ensures.missing

pub returns-in-None-clause-missing : goal.returns-in-None-clause-missing
returns-in-None-clause-missing t c =
    let stuck = below-stuck c.args.«module».now c.args.components.now c.in-Some.others.now c.in-Some.first.now c.as_str-name.result.now c.as_str.result.now c.in-Some.ensures.cases c.as_str-name.ensures.value c.as_str.ensures.value c.in-None.ensures.value in
    said (path_view c.args.path.now) _ _ c.missing_submodule.result stuck c.missing_submodule.ensures
