use Rattle.std.proofs.Common.{inr}
use Rattle.wesl_tree_names.specs.declared.errors.Error as error
use Rattle.wesl_text_program.specs.Texts.{IsNoText}
use Rattle.wesl_text_program.proofs.Said.{refused-by}
use Rattle.wesl_text_program.proofs.sources.no_text.Goals as goal

pub returns-in-Ok : goal.returns-in-Ok
returns-in-Ok c = refused-by IsNoText (error.BadTree c.in-Ok.reason) (inr c.in-Ok.ensures.ok) c.refused.result c.refused.ensures.error
