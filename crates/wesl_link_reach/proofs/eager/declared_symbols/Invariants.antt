use Rattle.std.proofs.Common.{take, []}
use Rattle.wesl_link_reach.specs.Asked.{Gains}
use Rattle.wesl_link_reach.specs.Eager.{IsDeclaredAmong}
use Rattle.wesl_link_reach.proofs.eager.declared_symbols.Given as goal

abbrev pub invariant-loop-declaration : goal.invariant-loop-declaration
invariant-loop-declaration l = Gains [] l.symbols.items (IsDeclaredAmong l.table (take l.declaration-index l.declaration-items))
