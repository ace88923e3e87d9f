use Rattle.std.proofs.Common.{sym, ◌∙◌}
use Rattle.std.proofs.lemmas.Result.{IfOk-weaker, IfErr-weaker}
use Rattle.wesl_program.specs.FoundBundle.{IsFoundOf}
use Rattle.wesl_program.proofs.Faults.{bundle-refusal}
use Rattle.wesl_program.proofs.whole_answer.linked_of_bytes.Goals as goal

pub returns-in-Ok-clause-linked : goal.returns-in-Ok-clause-linked
returns-in-Ok-clause-linked c =
    let is : IsFoundOf c.args.bytes.now c.in-Ok.found = c.in-Ok.ensures.found in
    IfOk-weaker c.answer_of.result _ _ (λ a h. (is.1.0, is.0, is.1.1, is.1.2, h is.0 is.2)) c.answer_of.ensures.linked

pub returns-in-Ok-clause-refused : goal.returns-in-Ok-clause-refused
returns-in-Ok-clause-refused c =
    let is : IsFoundOf c.args.bytes.now c.in-Ok.found = c.in-Ok.ensures.found in
    IfErr-weaker c.answer_of.result _ _ (λ r h. bundle-refusal c.args.bytes.now is.0 r.diagnostic.error is.1 (h is.0 is.2)) c.answer_of.ensures.refused

pub returns-in-Ok-clause-placed : goal.returns-in-Ok-clause-placed
returns-in-Ok-clause-placed c =
    let is : IsFoundOf c.args.bytes.now c.in-Ok.found = c.in-Ok.ensures.found in
    IfErr-weaker c.answer_of.result _ _ (λ r h placed. (is.0, is.1, sym is.2.spanned ∙ sym h ∙ placed)) c.answer_of.ensures.placed
