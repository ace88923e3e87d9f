use Rattle.std.proofs.Common.{refl}
use Rattle.wesl_link_symbols.proofs.Seeking.{above_run, alike_run}
use Rattle.wesl_link_symbols.proofs.table.Table.behind.Goals as goal

pub returns-then-passes_above-clause-passed : goal.returns-then-passes_above-clause-passed
returns-then-passes_above-clause-passed c =
    above_run c.args.self.now c.args.look_up c.args.sought c.args.row.now.imports.items c.args.index c.end_of.result c.import_at-import.result c.import_at-import.ensures (c.if-passes_above.ensures refl) c.end_of.ensures

pub returns-then-sees-clause-passed : goal.returns-then-sees-clause-passed
returns-then-sees-clause-passed c =
    alike_run c.args.self.now c.args.look_up c.args.sought c.args.row.now.imports.items c.args.index c.end_of-then-sees.result c.import_at-import.result c.import_at-import.ensures (c.if-sees.ensures.0 refl) c.requires.passed c.end_of-then-sees.ensures
