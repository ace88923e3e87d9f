use Rattle.wesl_explain_world.proofs.explaining.explain.Goals as goal

pub returns-in-Ok : goal.returns-in-Ok
returns-in-Ok c = c.explain_link.ensures
