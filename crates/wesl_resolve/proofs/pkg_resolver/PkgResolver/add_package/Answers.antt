use Rattle.wesl_resolve.proofs.pkg_resolver.PkgResolver.add_package.Goals as goal

pub invariant_of-self : goal.invariant_of-self
invariant_of-self g c = record { named = c.push.ensures.named c.args.self.now.named; noted = c.push.ensures.noted c.args.self.now.named c.args.self.now.noted }
