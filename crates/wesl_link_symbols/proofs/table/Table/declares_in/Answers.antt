use Rattle.wesl_link_symbols.proofs.Seeking.{declared_by}
use Rattle.wesl_link_symbols.proofs.table.Table.declares_in.Goals as goal

pub returns : goal.returns
returns c = declared_by c.args.self.now c.args.look_up c.args.row.now c.find_in.result c.is_some.result c.is_some.ensures c.requires c.find_in.ensures.found c.find_in.ensures.none
