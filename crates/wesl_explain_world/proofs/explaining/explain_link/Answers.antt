use Rattle.std.proofs.lemmas.Result.{IfOk-weaker}
use Rattle.wesl_explain_world.proofs.Told.{told_why}
use Rattle.wesl_explain_world.proofs.explaining.explain_link.Goals as goal

pub returns-in_ok-unit-in-Ok : goal.returns-in_ok-unit-in-Ok
returns-in_ok-unit-in-Ok c = IfOk-weaker c.explain_world.result _ _ (told_why c.args.request.now.is_eager c.in-Ok.world c.in-Ok.ensures) c.explain_world.ensures
