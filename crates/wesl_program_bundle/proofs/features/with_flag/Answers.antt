use Rattle.std.proofs.Common.{inl, inr}
use Rattle.std.proofs.lemmas.Result.{IfOk-weaker, IfErr-weaker}
use Rattle.wesl_program_bundle.proofs.features.with_flag.Goals as goal

pub returns-in-Ok-clause-ok : goal.returns-in-Ok-clause-ok
returns-in-Ok-clause-ok c =
    let parts = c.in-Ok.ensures.ok in
    IfOk-weaker c.put_flag.result _ _ (λ all grown. (c.in-Ok.flags, c.in-Ok.feature, parts.0, parts.1, grown)) c.put_flag.ensures.ok

pub returns-in-Ok-clause-place : goal.returns-in-Ok-clause-place
returns-in-Ok-clause-place c = IfErr-weaker c.put_flag.result _ _ (λ e refused. inl refused) c.put_flag.ensures.refused

pub returns-in-Err-clause-place : goal.returns-in-Err-clause-place
returns-in-Err-clause-place c = inr c.in-Err.ensures.place
