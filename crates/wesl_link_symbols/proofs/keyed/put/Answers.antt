use Rattle.wesl_link_symbols.proofs.Entries.{puts}
use Rattle.wesl_link_symbols.proofs.keyed.put.Goals as goal

pub returns-in-Ok-clause-puts : goal.returns-in-Ok-clause-puts
returns-in-Ok-clause-puts g c =
    puts g.K.PartialEq.eq g.met.K.Identity.same g.met.K.Eq.laws c.args.key c.args.value c.args.map.now.entries c.insert.new.self.entries c.in-Ok.ensures.updates.0 c.insert.ensures.unique _ c.in-Ok.ensures.entries
