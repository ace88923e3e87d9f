use Rattle.std.proofs.Common.{◌≡◌, map, take}
use Rattle.wesl_tree_syntax.specs.Unit.{name_in}
use Rattle.wesl_validate_faults.proofs.placed.names_of_all.Given as goal

abbrev pub invariant-loop-occurrence : goal.invariant-loop-occurrence
invariant-loop-occurrence l = l.all ≡ map (λ o. name_in l.names o.ident.0) (take l.occurrence-index l.found.all.items)
