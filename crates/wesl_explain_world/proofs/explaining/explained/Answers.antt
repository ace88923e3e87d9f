use Rattle.std.proofs.lemmas.Result.{IfOk-weaker}
use Rattle.wesl_program_bundle.specs.Views.{bundle_view}
use Rattle.wesl_explain_world.proofs.Told.{told_of_bytes}
use Rattle.wesl_explain_world.proofs.explaining.explained.Goals as goal

pub returns-in-Ok : goal.returns-in-Ok
returns-in-Ok c = IfOk-weaker c.explain.result _ _ (λ e told. told_of_bytes c.args.bytes.now (bundle_view c.in-Ok.bundle) c.in-Ok.ensures.bundle e told) c.explain.ensures
