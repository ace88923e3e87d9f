use Rattle.std.proofs.Common.{◌∙◌, ap}
use Rattle.wesl_link_tables.specs.Parts.{settled_in}
use Rattle.wesl_link_tables.proofs.table.add_settled.Goals as goal
use Rattle.wesl_link_split.proofs.Lists.{taken_all}

pub returns : goal.returns
returns c = c.loop-import.invariant ∙ ap (settled_in c.args.scope.now) (taken_all c.args.imports.now c.loop-import.import-index c.loop-import-test.false)
