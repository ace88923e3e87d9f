use Rattle.wesl_link_flaws.proofs.keys.has.Goals as goal

pub returns : goal.returns
returns g c = (λ yes. (c.requires.same c.args.key).1 (c.has_key.ensures.0 yes), λ h. c.has_key.ensures.1 ((c.requires.same c.args.key).0 h))
