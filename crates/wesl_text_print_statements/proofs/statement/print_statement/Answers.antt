use Rattle.std.proofs.Common.{sym}
use Rattle.wesl_text_print.proofs.Adding.{nothing_behind, told}
use Rattle.wesl_text_print_statements.proofs.statement.print_statement.Goals as goal

pub returns : goal.returns
returns g c = told (sym (nothing_behind _)) c.print_bare_statement.ensures
