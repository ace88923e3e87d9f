use Rattle.std.proofs.lemmas.Result.{IfOk-weaker, IfErr-weaker}
use Rattle.wesl_program_bundle.specs.Views.{bundle_view}
use Rattle.wesl_text_program.proofs.Telling.{bundle-refused, unread-refused}
use Rattle.wesl_text_program.proofs.bytes.text_of_bytes.Goals as goal

pub returns-in-Ok-clause-linked : goal.returns-in-Ok-clause-linked
returns-in-Ok-clause-linked c = IfOk-weaker c.text_of_bundle.result _ _ (λ t h. (bundle_view c.in-Ok.bundle, c.in-Ok.ensures.bundle, h)) c.text_of_bundle.ensures.linked

pub returns-in-Ok-clause-refused : goal.returns-in-Ok-clause-refused
returns-in-Ok-clause-refused c = IfErr-weaker c.text_of_bundle.result _ _ (λ e h. bundle-refused c.args.bytes.now (bundle_view c.in-Ok.bundle) c.in-Ok.ensures.bundle e h) c.text_of_bundle.ensures.refused

pub returns-clause-refused : goal.returns-clause-refused
returns-clause-refused c = unread-refused c.args.bytes.now c.in-Err.error c.of.result c.in-Err.ensures.refused c.of.ensures
