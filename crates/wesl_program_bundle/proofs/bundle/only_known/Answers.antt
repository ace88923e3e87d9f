use Rattle.wesl_program_bundle.proofs.bundle.only_known.Goals as goal

pub returns-clause-ok : goal.returns-clause-ok
returns-clause-ok g c = c.only.ensures.ok

pub returns-clause-keys : goal.returns-clause-keys
returns-clause-keys g c = c.only.ensures.keys

pub returns-clause-place : goal.returns-clause-place
returns-clause-place g c = c.only.ensures.place
