use Rattle.std.proofs.Common.{refl, ◌∙◌}
use Rattle.wesl_tree_names.specs.Path.{path_view}
use Rattle.wesl_resolve_base.proofs.PackagesLemmas.{said, package_below-step, package_below-stuck, package_below-all}
use Rattle.wesl_resolve_base.proofs.packages.package_below.Goals as goal

pub loop-part-init : goal.loop-part-init
loop-part-init c = refl

pub loop-part-preserved : goal.loop-part-preserved
loop-part-preserved c =
    c.loop-part.invariant ∙ package_below-step c.args.whole.now c.loop-part.«package».now c.in-Some.next.now c.deref.result.now c.args.parts.now c.loop-part.part-index _ c.loop-part-test.true c.deref.ensures.value c.in-Some.ensures

pub returns-in-None-clause-missing : goal.returns-in-None-clause-missing
returns-in-None-clause-missing c =
    let stuck = package_below-stuck c.args.whole.now c.loop-part.«package».now c.deref.result.now c.args.parts.now c.loop-part.part-index _ c.loop-part-test.true c.deref.ensures.value c.in-None.ensures in
    said (path_view c.args.path.now) _ _ c.missing_dependency.result (c.loop-part.invariant ∙ stuck) c.missing_dependency.ensures

pub returns-clause-found : goal.returns-clause-found
returns-clause-found c = c.loop-part.invariant ∙ package_below-all c.args.whole.now c.loop-part.«package».now c.args.parts.now c.loop-part.part-index c.loop-part-test.false
