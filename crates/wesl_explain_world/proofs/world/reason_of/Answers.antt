use Rattle.wesl_explain_world.proofs.world.reason_of.Goals as goal

pub returns-in-Some : goal.returns-in-Some
returns-in-Some c = rw c.in-Some.is c.symbol_chain.ensures

pub returns-in-None : goal.returns-in-None
returns-in-None c = rw c.in-None.is c.module_chain.ensures
