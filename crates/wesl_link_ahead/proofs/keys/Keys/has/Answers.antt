use Rattle.wesl_link_ahead.proofs.keys.Keys.has.Goals as goal

pub returns : goal.returns
returns g c = (
  λ yes. rw c.self.view_is at ((c.self.invariant c.args.key).1 (c.has_key.ensures.0 yes)),
  λ h. c.has_key.ensures.1 ((c.self.invariant c.args.key).0 (rw (← c.self.view_is) at h)),
)
