use Rattle.std.proofs.Common.{refl}
use Rattle.wesl_link_symbols.proofs.Answering.{lowest_start, lowest_next, lowest_asked, lowest_none}
use Rattle.wesl_link_symbols.proofs.table.Table.asked_among_all.Goals as goal

pub imports-init : goal.imports-init
imports-init c = lowest_start c.args.self.now c.args.look_up _ _ refl c.latest_import_of-at.ensures

pub imports-preserved : goal.imports-preserved
imports-preserved c = lowest_next c.args.self.now c.args.look_up c.imports.at c.in-Some.index _ c.earlier_import_of-at.result c.imports.lowest c.lower-lowest.result _ c.in-Some.is c.imports.invariant c.imports-in-Some.ensures c.lower-lowest.ensures.one c.lower-lowest.ensures.below c.lower-lowest.ensures.here c.earlier_import_of-at.ensures

pub returns-clause-asked : goal.returns-clause-asked
returns-clause-asked c = lowest_asked c.args.self.now c.args.look_up c.imports.at c.imports.lowest c.in_default.is c.imports.invariant

pub returns-clause-none : goal.returns-clause-none
returns-clause-none c = lowest_none c.args.self.now c.args.look_up c.imports.at c.imports.lowest c.in_default.is c.imports.invariant
