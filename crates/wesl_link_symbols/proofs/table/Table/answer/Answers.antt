use Rattle.std.proofs.Common.{refl}
use Rattle.std.proofs.lemmas.Bool.{false≢true}
use Rattle.wesl_link_symbols.proofs.Answering.{declared_alone, asked_torn, asked_alone, closed_missing}
use Rattle.wesl_link_symbols.proofs.Seeking.{torn_answer}
use Rattle.wesl_link_symbols.proofs.table.Table.answer.Goals as goal

pub returns-then-declares_to : goal.returns-then-declares_to
returns-then-declares_to c = declared_alone c.args.self.now c.args.look_up (c.if-declares_to.ensures.0 refl) (c.if-has.ensures.no refl)

pub returns-then-has-2 : goal.returns-then-has-2
returns-then-has-2 c = asked_torn c.args.self.now c.args.look_up (λ d. false≢true (c.if-declares_to.ensures.1 d)) c.in-Some.import c.in-Some.ensures.asked (c.if-has-2.ensures.yes refl)

pub returns-else-has-2 : goal.returns-else-has-2
returns-else-has-2 c =
    asked_alone c.args.self.now c.args.look_up (λ d. false≢true (c.if-declares_to.ensures.1 d)) c.in-Some.import c.in-Some.ensures.asked (c.if-has-2.ensures.no refl) _ c.asked_by.ensures

pub returns-else-hides : goal.returns-else-hides
returns-else-hides c = closed_missing c.args.self.now c.args.look_up (λ d. false≢true (c.if-declares_to.ensures.1 d)) c.in-None.ensures.none (c.if-hides.ensures.no refl)

pub returns-then-is_torn : goal.returns-then-is_torn
returns-then-is_torn c = torn_answer c.args.self.now c.args.look_up (λ d. false≢true (c.if-declares_to.ensures.1 d)) (c.if-is_torn.ensures refl)
