use Rattle.wesl_link_symbols.specs.Index.{Chains, name_of}
use Rattle.wesl_link_symbols.proofs.table.tie.Given as goal

abbrev pub invariant-loop-index : goal.invariant-loop-index
invariant-loop-index l = Chains name_of l.declarations l.index l.latest.entries l.earlier.items
