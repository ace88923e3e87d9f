use Rattle.std.proofs.Common.{◌≡◌, ◌++◌, drop, map}
use Rattle.wesl_scope_words.specs.Captured.{clash_view}
use Rattle.wesl_scope_words.specs.Finding.{all_told, look}
use Rattle.wesl_scope_words.proofs.whole.all_told.Given as goal

abbrev pub invariant-loop-i : goal.invariant-loop-i
invariant-loop-i l =
    map clash_view l.clashes.items ++ all_told l.names (look l.rivals) l.outer (drop l.i l.said) (drop l.i l.variables)
    ≡ all_told l.names (look l.rivals) l.outer l.said l.variables
