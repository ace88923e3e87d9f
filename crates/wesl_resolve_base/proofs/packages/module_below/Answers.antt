use Rattle.std.proofs.Common.{refl, ◌∙◌}
use Rattle.wesl_tree_names.specs.Path.{path_view}
use Rattle.wesl_resolve_base.proofs.PackagesLemmas.{said, module_below-step, module_below-stuck, module_below-all}
use Rattle.wesl_resolve_base.proofs.packages.module_below.Goals as goal

pub loop-component-init : goal.loop-component-init
loop-component-init c = refl

pub loop-component-preserved : goal.loop-component-preserved
loop-component-preserved c =
    c.loop-component.invariant ∙ module_below-step c.loop-component.«module».now c.in-Some.next.now c.args.components.now c.loop-component.component-index c.component-item.result c.as_str-name.result.now c.loop-component-test.true c.component-item.is c.as_str-name.ensures.value c.in-Some.ensures

pub returns-in-None-clause-missing : goal.returns-in-None-clause-missing
returns-in-None-clause-missing c =
    let stuck = module_below-stuck c.loop-component.«module».now c.args.components.now c.loop-component.component-index c.component-item.result c.as_str-name.result.now c.loop-component-test.true c.component-item.is c.as_str-name.ensures.value c.in-None.ensures in
    said (path_view c.args.path.now) _ _ c.missing_submodule.result (c.loop-component.invariant ∙ stuck) c.missing_submodule.ensures

pub returns-clause-found : goal.returns-clause-found
returns-clause-found c = c.loop-component.invariant ∙ module_below-all c.loop-component.«module».now c.args.components.now c.loop-component.component-index c.loop-component-test.false
