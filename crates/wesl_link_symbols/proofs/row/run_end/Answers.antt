use Rattle.std.proofs.Common.{refl}
use Rattle.wesl_link_symbols.proofs.Runs.{run_joined}
use Rattle.wesl_link_symbols.proofs.row.run_end.Goals as goal

pub returns-then-is_like : goal.returns-then-is_like
returns-then-is_like c = run_joined c.args.likeness c.args.imports.now c.args.ends.now c.args.index _ _ 0 c.if-next-imports.true c.requires.behind (c.if-is_like.ensures refl)
