use Rattle.std.proofs.Common.{refl}
use Rattle.wesl_scope_occurrences.specs.Views.{here_view}
use Rattle.wesl_tree_syntax.specs.View.{compound_view}
use Rattle.wesl_scope_occurrences.proofs.Nodes.{function_joined}
use Rattle.wesl_scope_occurrences.proofs.Steps.{begin, lawful, next, none, over, step, tells}
use Rattle.wesl_scope_occurrences.proofs.walk.Walk.function.Goals as goal

pub returns : goal.returns
returns g c =
    let l = lawful g.met.H.Handler.none g.met.H.Handler.more in
    let f = c.args.function.now in
    let h = here_view c.args.here.now in
    let x = next l (tells l (next l (step l (none l c.args.self.now) c.open-here.ensures.opened) c.attributes.ensures) c.meet.ensures) c.parameters.ensures in
    over h (tells l (next l (next l (next l x c.attributes-2.ensures) c.optional_type.ensures) c.compound.ensures) c.close.ensures) refl
    (function_joined h (here_view c.open-here.result) (here_view c.inside.result) (begin c.args.self.now) f.attributes f.ident f.parameters f.return_attributes f.return_type (compound_view f.body) c.open-here.ensures.here c.inside.ensures)
