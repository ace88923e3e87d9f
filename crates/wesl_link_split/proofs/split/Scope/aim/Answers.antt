use Rattle.std.proofs.Common.{sym, ◌∙◌}
use Rattle.wesl_link_split.specs.ScopeView.{scope_view}
use Rattle.wesl_link_split.proofs.Anywhere.{aims_elsewhere}
use Rattle.wesl_link_split.proofs.split.Scope.aim.Goals as goal

pub returns : goal.returns
returns c =
    c.aim_elsewhere.ensures ∙ aims_elsewhere (scope_view c.args.self.now) c.args.binder.now (sym c.is_own_split.ensures ∙ c.if-is_own_split.false)
