use Rattle.std.proofs.Common.{◌≡◌, ◌++◌, drop}
use Rattle.std.specs.List.{filter}
use Rattle.wesl_scope_words.specs.Finding.{declares}
use Rattle.wesl_scope_words.proofs.binders.binders.Given as goal

abbrev pub invariant-loop-occurrence : goal.invariant-loop-occurrence
invariant-loop-occurrence l = l.found.items ++ filter declares (drop l.occurrence-index l.all) ≡ filter declares l.all
