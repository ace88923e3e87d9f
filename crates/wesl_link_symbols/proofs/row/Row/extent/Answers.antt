use Rattle.wesl_link_symbols.proofs.Runs.{extent_there, extent_none}
use Rattle.wesl_link_symbols.proofs.row.Row.extent.Goals as goal

pub returns-in-Some-clause-within : goal.returns-in-Some-clause-within
returns-in-Some-clause-within c = (c.args.self.now.extents_are.within c.args.name c.in-Some.extent c.in-Some.ensures.found).1

pub returns-in-Some-clause-all : goal.returns-in-Some-clause-all
returns-in-Some-clause-all c = extent_there c.args.self.now.imports.items c.args.name c.args.self.now.extents.entries c.in-Some.extent c.args.self.now.extents_are c.in-Some.ensures.found

pub returns-in-None-clause-all : goal.returns-in-None-clause-all
returns-in-None-clause-all c = extent_none c.args.self.now.imports.items c.args.name c.args.self.now.extents.entries _ c.args.self.now.extents_are c.in-None.ensures.none
