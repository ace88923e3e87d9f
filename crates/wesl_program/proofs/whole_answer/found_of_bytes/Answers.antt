use Rattle.std.proofs.Common.{sym, subst, ◌∙◌}
use Rattle.std.proofs.lemmas.Result.{IfOk-weaker, IfErr-weaker}
use Rattle.wesl_program_bundle.specs.Views.{bundle_view}
use Rattle.wesl_program.specs.Line.{IsRefusal}
use Rattle.wesl_program.proofs.Faults.{bundle-refusal, unread-refusal}
use Rattle.wesl_program.proofs.whole_answer.found_of_bytes.Goals as goal

pub returns-in-Ok-clause-found : goal.returns-in-Ok-clause-found
returns-in-Ok-clause-found c =
    IfOk-weaker c.found_of.result _ _ (λ found h. (bundle_view c.in-Ok.bundle, c.in-Ok.ensures.bundle, h)) c.found_of.ensures.found

pub returns-in-Ok-clause-refused : goal.returns-in-Ok-clause-refused
returns-in-Ok-clause-refused c =
    IfErr-weaker c.found_of.result _ _ (λ r h. bundle-refusal c.args.bytes.now (bundle_view c.in-Ok.bundle) r.diagnostic.error c.in-Ok.ensures.bundle h) c.found_of.ensures.refused

pub returns-in-Ok-clause-placed : goal.returns-in-Ok-clause-placed
returns-in-Ok-clause-placed c =
    IfErr-weaker c.found_of.result _ _ (λ r h placed. (bundle_view c.in-Ok.bundle, c.in-Ok.ensures.bundle, sym h ∙ placed)) c.found_of.ensures.placed

pub returns-clause-refused : goal.returns-clause-refused
returns-clause-refused c =
    subst (IsRefusal c.args.bytes.now) (sym c.of.ensures.error) (unread-refusal c.args.bytes.now c.in-Err.error c.in-Err.ensures.refused)
