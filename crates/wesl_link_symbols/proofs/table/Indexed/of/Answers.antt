use Rattle.wesl_link_symbols.proofs.table.Indexed.of.Goals as goal

pub returns-in-Ok : goal.returns-in-Ok
returns-in-Ok c = c.in-Ok.ensures
