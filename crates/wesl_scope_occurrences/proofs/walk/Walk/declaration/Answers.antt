use Rattle.std.proofs.Common.{refl, subst, [], ◌∷◌}
use Rattle.wesl_scope_occurrences.specs.Views.{here_view}
use Rattle.wesl_scope_occurrences.specs.Events.{meets}
use Rattle.wesl_scope_occurrences.specs.Noted.{Steps}
use Rattle.wesl_scope_occurrences.proofs.Nodes.{value_joined}
use Rattle.wesl_scope_occurrences.proofs.Steps.{begin, lawful, next, none, over, tells}
use Rattle.wesl_scope_occurrences.proofs.walk.Walk.declaration.Goals as goal

pub returns : goal.returns
returns g c =
    let l = lawful g.met.H.Handler.none g.met.H.Handler.more in
    let d = c.args.declaration.now in
    let h = here_view c.args.here.now in
    let met = subst (λ r. Steps g.H.Handler.after c.attributes.new.self c.meet.new.self (meets h r d.ident.0 ∷ []) []) c.value_name.ensures c.meet.ensures in
    over h (tells l (next l (next l (tells l (next l (none l c.args.self.now) c.attributes.ensures) met) c.optional_type.ensures) c.optional_node.ensures) c.end.ensures) refl
    (value_joined h (begin c.args.self.now) d.attributes d.kind d.ident d.ty d.initializer)
