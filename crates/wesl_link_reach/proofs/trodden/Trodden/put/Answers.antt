use Rattle.std.proofs.Common.{inl, subst, refl}
use Rattle.wesl_link_symbols.specs.declared.ids.PathId.{PathId}
use Rattle.wesl_tree_base.specs.declared.ids.NameId.{NameId}
use Rattle.wesl_link_reach.specs.Trodden.{TroddenSteps, StepAt}
use Rattle.wesl_link_reach.proofs.trodden.Trodden.put.Goals as goal

pub returns-in-Some : goal.returns-in-Some
returns-in-Some c =
    let (s, at) = c.self.invariant.placed _ _ c.in-Some.ensures.found in
    inl (refl, (c.in-Some.field-0, s, subst (λ (v : TroddenSteps PathId NameId). StepAt v.steps c.in-Some.field-0 c.args.look_up s) c.self.view_is at))
