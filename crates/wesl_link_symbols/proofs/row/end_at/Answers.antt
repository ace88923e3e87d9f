use Rattle.std.proofs.Common.{arith}
use Rattle.wesl_link_symbols.proofs.Runs.{run_at}
use Rattle.wesl_link_symbols.proofs.row.end_at.Goals as goal

pub bounds-ends-index : goal.bounds-ends-index
bounds-ends-index c = omega (arith, c.requires.within, c.requires.ends.long)

pub returns : goal.returns
returns c = run_at c.args.likeness c.args.imports.now c.args.ends.now c.args.index _ c.requires.within c.requires.ends
