use Rattle.std.proofs.Common.{ap}
use Rattle.wesl_text_print.specs.Printing.{name_slots}
use Rattle.wesl_text_print.proofs.Adding.{lawful, one, told}
use Rattle.wesl_text_print.proofs.expression.print_name.Goals as goal

pub returns : goal.returns
returns g c = told (ap name_slots c.spelling.ensures) (one (lawful g.met.S.TokenSink.none g.met.S.TokenSink.more) c.name.ensures)
