use Rattle.std.proofs.Common.{refl}
use Rattle.wesl_scope_occurrences.proofs.Steps.{are, lawful, none, numbers, tells}
use Rattle.wesl_scope_occurrences.proofs.walk.Walk.open.Goals as goal

pub returns-clause-opened : goal.returns-clause-opened
returns-clause-opened g c =
    let l = lawful g.met.H.Handler.none g.met.H.Handler.more in
    are (tells l (numbers l (none l c.args.self.now) c.number-here.ensures.numbered) c.enter.ensures) (λ k. refl) (λ k. refl)
