use Rattle.wesl_cond_covers.proofs.sights.Sights.next.Goals as goal

pub returns-clause-unseen : goal.returns-clause-unseen
returns-clause-unseen c places h = c.next.ensures.unseen places h.covered
