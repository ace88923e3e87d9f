use Rattle.std.proofs.Common.{◌∙◌, ◌++◌, ap, sym, map, append-nil}
use Rattle.wesl_link_split.specs.Split.{binder_of}
use Rattle.wesl_link_tables.proofs.table.add_imported.Goals as goal
use Rattle.wesl_link_split.proofs.Lists.{taken_all}

pub loop-import-init : goal.loop-import-init
loop-import-init c = sym (append-nil c.args.binders.now.items)

pub returns : goal.returns
returns c = c.loop-import.invariant ∙ ap (λ l. c.args.binders.now.items ++ map binder_of l) (taken_all c.args.imports.now c.loop-import.import-index c.loop-import-test.false)
