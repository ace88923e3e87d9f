use Rattle.wesl_scope.proofs.Stripping.{Compacted}
use Rattle.wesl_scope.proofs.strip.keep_marked.Given as goal

abbrev pub invariant-loop-j : goal.invariant-loop-j
invariant-loop-j l = Compacted l.kept l.initial.declarations.items l.declarations.items l.next l.j
