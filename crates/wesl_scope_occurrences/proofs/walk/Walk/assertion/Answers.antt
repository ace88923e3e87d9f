use Rattle.std.proofs.Common.{refl}
use Rattle.wesl_scope_occurrences.specs.Views.{here_view}
use Rattle.wesl_scope_occurrences.proofs.Steps.{lawful, next, none, over}
use Rattle.wesl_scope_occurrences.proofs.walk.Walk.assertion.Goals as goal

pub returns : goal.returns
returns g c =
    let l = lawful g.met.H.Handler.none g.met.H.Handler.more in
    over (here_view c.args.here.now) (next l (next l (none l c.args.self.now) c.attributes.ensures) c.node.ensures) refl refl
