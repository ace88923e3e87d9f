use Rattle.std.proofs.Common.{refl}
use Rattle.wesl_scope_occurrences.specs.Views.{here_view}
use Rattle.wesl_scope_occurrences.proofs.Nodes.{parameter_joined}
use Rattle.wesl_scope_occurrences.proofs.Steps.{begin, lawful, next, none, over, tells}
use Rattle.wesl_scope_occurrences.proofs.walk.Walk.parameter.Goals as goal

pub returns : goal.returns
returns g c =
    let l = lawful g.met.H.Handler.none g.met.H.Handler.more in
    let p = c.args.parameter.now in
    over (here_view c.args.here.now) (next l (tells l (next l (none l c.args.self.now) c.attributes.ensures) c.meet.ensures) c.type_expression.ensures) refl
    (parameter_joined (here_view c.args.here.now) (here_view c.in_module-outside.result) (begin c.args.self.now) p.attributes p.ident p.ty c.in_module-outside.ensures)
