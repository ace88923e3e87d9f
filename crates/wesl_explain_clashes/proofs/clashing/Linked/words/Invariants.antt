use Rattle.std.proofs.Common.{◌≡◌, map, take}
use Rattle.wesl_scope_words.specs.Captured.{clash_view}
use Rattle.wesl_explain_clashes.specs.Told.{word, printed}
use Rattle.wesl_explain_clashes.proofs.clashing.Linked.words.Given as goal

abbrev pub invariant-loop-clash : goal.invariant-loop-clash
invariant-loop-clash l = map printed l.told.items ≡ map word (map clash_view (take l.clash-index l.found))
