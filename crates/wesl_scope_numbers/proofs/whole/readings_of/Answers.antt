use Rattle.std.proofs.Common.{◌∙◌, subst}
use Rattle.wesl_scope_numbers.specs.Begun.{IsBegun}
use Rattle.wesl_scope_numbers.proofs.Ended.{ended_apart, ended_right}
use Rattle.wesl_scope_numbers.proofs.whole.readings_of.Goals as goal

pub returns-clause-apart : goal.returns-clause-apart
returns-clause-apart c =
    let u = c.args.unit.now in
    c.are_names_apart.ensures
    ∙ ended_apart u.names u.imports u.directives u.declarations c.in_ok-walked.ensures.named c.in_ok-judge.judge c.in_ok-walked.walked.handler (subst (λ ns. IsBegun ns c.in_ok-judge.judge) c.names.ensures.names c.in_ok-judge.ensures) c.in_ok-walked.ensures.told c.if-judge.false

pub returns-clause-right : goal.returns-clause-right
returns-clause-right c =
    let u = c.args.unit.now in
    c.are_references_right.ensures
    ∙ ended_right u.names u.imports u.directives u.declarations c.in_ok-walked.ensures.named c.in_ok-judge.judge c.in_ok-walked.walked.handler (subst (λ ns. IsBegun ns c.in_ok-judge.judge) c.names.ensures.names c.in_ok-judge.ensures) c.in_ok-walked.ensures.told c.if-judge.false
