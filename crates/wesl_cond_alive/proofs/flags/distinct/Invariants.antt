use Rattle.std.proofs.Common.{◌≡◌, false, map, take}
use Rattle.wesl_tree_base.specs.Borrowed.{texts}
use Rattle.wesl_tree_syntax.specs.Unit.{name_in}
use Rattle.wesl_cond_alive.specs.Choices.{once}
use Rattle.wesl_cond_alive.proofs.flags.distinct.Given as goal

abbrev pub invariant-loop-ident : goal.invariant-loop-ident
invariant-loop-ident l = l.is_refused ≡ false → texts l.found.keys ≡ once (map (name_in l.names) (map (λ i. i.0) (take l.ident-index l.idents)))
