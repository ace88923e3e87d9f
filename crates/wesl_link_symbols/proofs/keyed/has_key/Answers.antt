use Rattle.wesl_link_symbols.proofs.Entries.{has_key_is}
use Rattle.wesl_link_symbols.proofs.keyed.has_key.Goals as goal

pub returns : goal.returns
returns g c = has_key_is g.K.PartialEq.eq g.met.K.Identity.same g.met.K.Eq.laws c.args.key c.args.held.now.keys c.contains.result c.contains.ensures
