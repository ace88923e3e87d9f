use Rattle.std.proofs.Common.{◌<◌, length, subst, rules}
use Rattle.wesl_link_symbols.specs.declared.ids.PathId.{PathId}
use Rattle.wesl_tree_base.specs.declared.ids.NameId.{NameId}
use Rattle.wesl_link_reach.specs.Trodden.{TroddenSteps, StepAt}
use Rattle.wesl_link_reach.proofs.Noting.{step_read, step_within}
use Rattle.wesl_link_reach.proofs.trodden.Trodden.before.Goals as goal

pub index-requires : goal.index-requires
index-requires c =
    let b : c.in-Some.found < length c.self.inside.steps.items = step_within c.args.look_up c.in-Some.found c.self.invariant c.in-Some.ensures.found in
    search rules

pub returns-in-Some : goal.returns-in-Some
returns-in-Some c = (
  c.in-Some.found,
  c.if-found-place.true,
  subst (λ (v : TroddenSteps PathId NameId). StepAt v.steps c.in-Some.found c.args.look_up c.index.result.now.1) c.self.view_is
      (step_read c.args.look_up c.in-Some.found c.index.result.now c.self.invariant c.in-Some.ensures.found c.index.ensures),
)
