use Rattle.wesl_link_symbols.proofs.table.Table.asked_in.Goals as goal

pub returns-in-None-clause-none : goal.returns-in-None-clause-none
returns-in-None-clause-none c = λ i may. c.in-None.ensures.none i may.0 (may.1, may.2)
