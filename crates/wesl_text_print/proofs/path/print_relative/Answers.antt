use Rattle.wesl_text_print.proofs.Adding.{told}
use Rattle.wesl_text_print.proofs.Paths.{self_printed, supers_printed}
use Rattle.wesl_text_print.proofs.path.print_relative.Goals as goal

pub returns-then-up-eq0 : goal.returns-then-up-eq0
returns-then-up-eq0 g c = told (self_printed c.args.up c.if-up-eq0.true) c.print_step.ensures

pub returns-else-up-eq0 : goal.returns-else-up-eq0
returns-else-up-eq0 g c = told (supers_printed c.args.up c.if-up-eq0.false) c.print_supers.ensures
