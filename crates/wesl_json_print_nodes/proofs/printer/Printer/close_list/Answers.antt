use Rattle.wesl_json_print_nodes.proofs.Adding.{step}
use Rattle.wesl_json_print_nodes.proofs.printer.Printer.close_list.Goals as goal

pub returns : goal.returns
returns g c = step c.close_list.ensures
