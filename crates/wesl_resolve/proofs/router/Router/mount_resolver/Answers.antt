use Rattle.wesl_resolve.proofs.RouterLemmas.{AllReady-push}
use Rattle.wesl_resolve.proofs.router.Router.mount_resolver.Goals as goal

pub returns-clause-ready : goal.returns-clause-ready
returns-clause-ready g c = λ all here. AllReady-push g.B.Resolver.ready c.args.self.now.mount_points.items c.push.new.self.items c.args.self.now.fallback (c.args.prefix, c.args.resolver) c.in_ok-push.ensures.items all here
