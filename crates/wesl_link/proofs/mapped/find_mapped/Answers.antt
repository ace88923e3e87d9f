use Rattle.wesl_link.proofs.mapped.find_mapped.Goals as goal

pub find_judged-requires-clause-judges : goal.find_judged-requires-clause-judges
find_judged-requires-clause-judges g c = λ given answer. (λ h. h.1, λ h. ((tt, (tt, (tt, (tt, tt)))), h))
