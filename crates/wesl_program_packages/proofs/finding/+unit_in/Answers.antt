use Rattle.std.proofs.Common.{List, map, String, string_bytes, Result, ap, sym, ◌∙◌}
use Rattle.std.specs.declared.alloc.Global.{Global}
use Rattle.serde_json.specs.Data.{Data}
use Rattle.wesl_tree_names.specs.Path.{Text, path_view}
use Rattle.wesl_program_packages.specs.Held.{held_below}
use Rattle.wesl_program_packages.specs.declared.held.HeldPackage.{out-HeldPackage}
use Rattle.wesl_resolve_base.proofs.PackagesLemmas.{said, found-as, missing-as}
use Rattle.wesl_program_packages.proofs.Ways.{in-all, in-step, in-stuck}
use Rattle.wesl_program_packages.proofs.finding.+unit_in.Goals as goal

pub returns-in_default-clause-found : goal.returns-in_default-clause-found
returns-in_default-clause-found t c =
    let below : List (String Global) → Result Data Text = λ names. held_below (out-HeldPackage c.args.«package».now).root (map string_bytes names) in
    let all = in-all c.args.whole.now c.args.«package».now c.args.parts.now (path_view c.args.path.now).components c.in_default.ensures.cases ∙ ap below (sym c.deref.ensures.value) in
    found-as _ _ _ all c.unit_below.result c.unit_below.ensures.found

pub returns-in_default-clause-missing : goal.returns-in_default-clause-missing
returns-in_default-clause-missing t c =
    let below : List (String Global) → Result Data Text = λ names. held_below (out-HeldPackage c.args.«package».now).root (map string_bytes names) in
    let all = in-all c.args.whole.now c.args.«package».now c.args.parts.now (path_view c.args.path.now).components c.in_default.ensures.cases ∙ ap below (sym c.deref.ensures.value) in
    missing-as (path_view c.args.path.now) _ _ all c.unit_below.result c.unit_below.ensures.missing

pub returns-in-Some-get-clause-found : goal.returns-in-Some-get-clause-found
returns-in-Some-get-clause-found t c =
    let step = in-step c.args.whole.now c.args.«package».now c.in-Some-get.next.now c.args.parts.now c.in-Some.others.now c.in-Some.first.now (path_view c.args.path.now).components c.in-Some.ensures.cases c.in-Some-get.ensures.value in
    found-as _ _ _ step c.unit_in.result c.unit_in.ensures.found

pub returns-in-Some-get-clause-missing : goal.returns-in-Some-get-clause-missing
returns-in-Some-get-clause-missing t c =
    let step = in-step c.args.whole.now c.args.«package».now c.in-Some-get.next.now c.args.parts.now c.in-Some.others.now c.in-Some.first.now (path_view c.args.path.now).components c.in-Some.ensures.cases c.in-Some-get.ensures.value in
    missing-as (path_view c.args.path.now) _ _ step c.unit_in.result c.unit_in.ensures.missing

pub returns-in-None-clause-missing : goal.returns-in-None-clause-missing
returns-in-None-clause-missing t c =
    let stuck = in-stuck c.args.whole.now c.args.«package».now c.args.parts.now c.in-Some.others.now c.in-Some.first.now (path_view c.args.path.now).components c.in-Some.ensures.cases c.in-None.ensures.value in
    said (path_view c.args.path.now) _ _ c.missing_dependency.result stuck c.missing_dependency.ensures
