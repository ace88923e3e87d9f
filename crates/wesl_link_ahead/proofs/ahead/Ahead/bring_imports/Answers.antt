use Rattle.std.proofs.Common.{refl}
use Rattle.wesl_link_reach.specs.World.Entered.{imported}
use Rattle.wesl_link_reach.proofs.Growing.{element_of}
use Rattle.wesl_link_ahead.proofs.ahead.Ahead.bring_imports.Goals as goal

pub enter-requires-clause-entered : goal.enter-requires-clause-entered
enter-requires-clause-entered c =
    imported c.args.table.now.path _ c.args.table.now _ c.requires.eager c.requires.entered (c.requires.there, refl)
    (element_of c.imports-import-items.result.now c.args.table.now.imports c.loop-import.import-index _ c.imports-import-items.ensures c.loop-import-test.true) refl
