use Rattle.wesl_cond_alive.specs.Views.{here_view}
use Rattle.wesl_cond_alive.proofs.Outlines.{place_at}
use Rattle.wesl_cond_alive.proofs.walk.Here.place.Goals as goal

pub returns-then-node-places : goal.returns-then-node-places
returns-then-node-places c = place_at (here_view c.args.self.now) c.args.places.now c.args.node _ c.if-node-places.true
