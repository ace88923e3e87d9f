use Rattle.wesl_link_symbols.specs.Index.{Chains, bound_of}
use Rattle.wesl_link_symbols.proofs.table.tie_imports.Given as goal

abbrev pub invariant-loop-index : goal.invariant-loop-index
invariant-loop-index l = Chains bound_of l.imports l.index l.latest.entries l.earlier.items
