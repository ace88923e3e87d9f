use Rattle.std.proofs.Common.{sym}
use Rattle.wesl_link_symbols.proofs.Entries.{found_at, none_at}
use Rattle.wesl_link_engine.specs.Taking.{path_eq}
use Rattle.wesl_link_engine.proofs.Kept.{path_same, path_laws}
use Rattle.wesl_link_engine.proofs.modules.unit_of.Goals as goal

pub returns-in-Some-clause-found : goal.returns-in-Some-clause-found
returns-in-Some-clause-found g c = found_at path_eq path_same path_laws c.args.units.now.entries c.args.id c.in-Some.unit.now (sym c.in-Some.ensures.value)

pub returns-in-None-clause-none : goal.returns-in-None-clause-none
returns-in-None-clause-none g c = λ u h. none_at path_eq path_same path_laws c.args.units.now.entries c.args.id u (sym c.in-None.ensures.value) h
