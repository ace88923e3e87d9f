use Rattle.std.proofs.Common.{refl}
use Rattle.wesl_scope_occurrences.specs.Views.{here_view}
use Rattle.wesl_scope_occurrences.proofs.Views.{item_none, item_some}
use Rattle.wesl_scope_occurrences.proofs.Steps.{lawful, none, over, tells}
use Rattle.wesl_scope_occurrences.proofs.walk.Walk.item.Goals as goal

pub returns-in-None : goal.returns-in-None
returns-in-None g c =
    let l = lawful g.met.H.Handler.none g.met.H.Handler.more in
    over (here_view c.args.here.now) (tells l (none l c.args.self.now) c.meet.ensures) (item_none c.args.item.now c.in-None.is) refl

pub returns-in-Some : goal.returns-in-Some
returns-in-Some g c =
    let l = lawful g.met.H.Handler.none g.met.H.Handler.more in
    over (here_view c.args.here.now) (tells l (tells l (none l c.args.self.now) c.meet-in-Some.ensures) c.meet-in-Some-2.ensures) (item_some c.args.item.now c.in-Some.rename c.in-Some.is) refl
