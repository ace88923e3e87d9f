use Rattle.wesl_tree_names.specs.declared.errors.Diagnostic.{out-Diagnostic}
use Rattle.wesl_text.specs.Said.{IsUnreadable}
use Rattle.wesl_text_program.proofs.Said.{refused-by}
use Rattle.wesl_text_program.proofs.sources.unit_of_text.Goals as goal

pub returns-in-Err-clause-refused : goal.returns-in-Err-clause-refused
returns-in-Err-clause-refused c = refused-by (IsUnreadable c.args.text.now) (out-Diagnostic c.in-Err.fault).error c.in-Err.ensures.refused c.refused_at.result c.refused_at.ensures
