use Rattle.wesl_tree_names.specs.declared.errors.Diagnostic.{out-Diagnostic}
use Rattle.wesl_program.specs.Fault.{fault_of}
use Rattle.wesl_program.specs.Made.{bytes_of}
use Rattle.wesl_text_program.proofs.Telling.{told-as-others}
use Rattle.wesl_text_program.proofs.lines.link_line.Goals as goal

pub returns-in-None : goal.returns-in-None
returns-in-None c = told-as-others (fault_of (out-Diagnostic c.args.diagnostic).error) (bytes_of c.refusal_line.result) c.refusal_line.ensures
