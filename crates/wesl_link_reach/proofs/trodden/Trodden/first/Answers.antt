use Rattle.std.proofs.Common.{Contains, subst, sym}
use Rattle.wesl_link_symbols.specs.declared.ids.PathId.{PathId}
use Rattle.wesl_tree_base.specs.declared.ids.NameId.{NameId}
use Rattle.wesl_link_symbols.specs.declared.symbols.Symbol.{Symbol}
use Rattle.wesl_link_reach.specs.Trodden.{TroddenSteps, StepAt, NoneBefore}
use Rattle.wesl_link_reach.proofs.trodden.Trodden.first.Goals as goal

pub returns-in-Some : goal.returns-in-Some
returns-in-Some c =
    subst (λ (v : TroddenSteps PathId NameId). NoneBefore v.steps c.args.question c.in-Some.first) c.self.view_is (c.self.invariant.first c.args.question c.in-Some.first c.in-Some.ensures.found)

pub returns-in-None : goal.returns-in-None
returns-in-None c = λ k l s at is.
    (let (n, noted) = c.self.invariant.noted k l s (subst (λ (v : TroddenSteps PathId NameId). StepAt v.steps k l s) (sym c.self.view_is) at) in
    absurd (c.in-None.ensures.none n (subst (λ (q : Symbol PathId NameId). Contains c.self.inside.firsts.entries (q, n)) is noted)))
