use Rattle.std.proofs.Common.{◌≡◌, map, take}
use Rattle.wesl_scope_clashes.specs.Clashes.{clash_view}
use Rattle.wesl_explain_clashes.specs.Told.{name, printed}
use Rattle.wesl_explain_clashes.proofs.clashing.Linked.names.Given as goal

abbrev pub invariant-loop-clash : goal.invariant-loop-clash
invariant-loop-clash l = map printed l.told.items ≡ map name (map clash_view (take l.clash-index l.found))
