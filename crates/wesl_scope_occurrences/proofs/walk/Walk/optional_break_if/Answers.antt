use Rattle.std.proofs.Common.{refl, ap}
use Rattle.wesl_scope_occurrences.specs.Views.{here_view}
use Rattle.wesl_scope_occurrences.proofs.Steps.{lawful, next, none, over}
use Rattle.wesl_tree_syntax.specs.View.{optional, break_if_view}
use Rattle.wesl_scope_occurrences.proofs.walk.Walk.optional_break_if.Goals as goal

pub returns-in-None : goal.returns-in-None
returns-in-None g c =
    let l = lawful g.met.H.Handler.none g.met.H.Handler.more in
    over (here_view c.args.here.now) (none l c.args.self.now) (ap (optional break_if_view) c.in-None.is) refl

pub returns-in-Some : goal.returns-in-Some
returns-in-Some g c =
    let l = lawful g.met.H.Handler.none g.met.H.Handler.more in
    over (here_view c.args.here.now) (next l (none l c.args.self.now) c.break_if.ensures) (ap (optional break_if_view) c.in-Some.is) refl
