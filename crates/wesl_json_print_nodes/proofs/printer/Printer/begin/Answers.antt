use Rattle.wesl_json_print_nodes.proofs.Adding.{step}
use Rattle.wesl_json_print_nodes.proofs.printer.Printer.begin.Goals as goal

pub returns : goal.returns
returns g c = step c.begin.ensures
