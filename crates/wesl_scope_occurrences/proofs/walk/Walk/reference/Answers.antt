use Rattle.std.proofs.Common.{subst, [], ◌∷◌}
use Rattle.wesl_scope_occurrences.specs.Views.{here_view}
use Rattle.wesl_scope_occurrences.specs.Events.{meets}
use Rattle.wesl_scope_occurrences.specs.Noted.{Steps}
use Rattle.wesl_scope_occurrences.proofs.walk.Walk.reference.Goals as goal

pub returns : goal.returns
returns g c =
    subst (λ r. Steps g.H.Handler.after c.args.self.now c.meet.new.self (meets (here_view c.args.here.now) r c.args.ident.0 ∷ []) []) c.referring.ensures c.meet.ensures
