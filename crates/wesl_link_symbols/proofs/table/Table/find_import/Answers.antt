use Rattle.wesl_link_symbols.proofs.Seeking.{found_there, none_there}
use Rattle.wesl_link_symbols.proofs.table.Table.find_import.Goals as goal

pub returns-clause-found : goal.returns-clause-found
returns-clause-found c = found_there c.args.self.now c.args.look_up c.args.row.now c.find_in.result c.args.sought c.requires.row c.find_in.ensures.found

pub returns-clause-none : goal.returns-clause-none
returns-clause-none c = none_there c.args.self.now c.args.look_up c.args.row.now c.find_in.result c.args.sought c.requires.row c.find_in.ensures.none
