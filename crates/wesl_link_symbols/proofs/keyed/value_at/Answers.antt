use Rattle.std.proofs.Common.{sym}
use Rattle.wesl_link_symbols.proofs.Entries.{found_at, none_at}
use Rattle.wesl_link_symbols.proofs.keyed.value_at.Goals as goal

pub returns-in-Some-clause-found : goal.returns-in-Some-clause-found
returns-in-Some-clause-found g c = found_at g.K.PartialEq.eq g.met.K.Identity.same g.met.K.Eq.laws c.args.map.now.entries c.args.key c.in-Some.value.now (sym c.in-Some.ensures.value)

pub returns-in-None-clause-none : goal.returns-in-None-clause-none
returns-in-None-clause-none g c = λ v h. none_at g.K.PartialEq.eq g.met.K.Identity.same g.met.K.Eq.laws c.args.map.now.entries c.args.key v (sym c.in-None.ensures.value) h
