use Rattle.std.specs.Prelude.{Some, [], ◌∷◌}
use Rattle.wesl_scope_occurrences.specs.Views.{here_view}
use Rattle.wesl_tree_syntax.specs.View.{global_view}
use Rattle.wesl_scope_occurrences.specs.Events.{begins}
use Rattle.wesl_scope_occurrences.proofs.Telling.{say, told_tree, outer_tree}
use Rattle.wesl_scope_occurrences.proofs.Steps.{are, begin, lawful, next, none, tells}
use Rattle.wesl_scope_occurrences.proofs.walk.Walk.numbered.Goals as goal

pub returns : goal.returns
returns g c =
    let l = lawful g.met.H.Handler.none g.met.H.Handler.more in
    let s = say (begins ∷ []) (begin c.args.self.now) in
    let h = record (here_view c.args.here.now) { declaration = Some c.args.number } in
    are (next l (tells l (none l c.args.self.now) c.begin.ensures) c.global.ensures) (λ k. told_tree h s (global_view c.args.declaration.now)) (λ k. outer_tree h s (global_view c.args.declaration.now))
