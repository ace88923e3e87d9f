use Rattle.wesl_scope_occurrences.specs.Views.{here_view}
use Rattle.wesl_scope_occurrences.proofs.Steps.{Begun}
use Rattle.wesl_scope_occurrences.proofs.walk.Walk.globals.Given as goal

abbrev pub invariant-loop-i : goal.invariant-loop-i
invariant-loop-i g l = Begun g.H.Handler.after (here_view l.here) l.initial.self l.self l.declarations.items l.i
