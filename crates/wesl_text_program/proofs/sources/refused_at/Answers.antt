use Rattle.std.proofs.Common.{sym, ◌∙◌}
use Rattle.wesl_tree_names.specs.declared.errors.Diagnostic.{out-Diagnostic}
use Rattle.wesl_text_program.proofs.Said.{refused-never}
use Rattle.wesl_text_program.proofs.sources.refused_at.Goals as goal

pub returns-in-Some : goal.returns-in-Some
returns-in-Some c = refused-never (out-Diagnostic c.args.fault).error (sym c.is_memory.ensures ∙ c.if-is_memory.false) c.told_of.result c.told_of.ensures
