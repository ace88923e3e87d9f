use Rattle.std.proofs.Common.{inl}
use Rattle.std.proofs.lemmas.Result.{IfOk-weaker, IfErr-weaker}
use Rattle.wesl_link.specs.Keeping.{resolved}
use Rattle.wesl_text_linked.proofs.Named.{named_refused}
use Rattle.wesl_text_linked.proofs.unit.linked_unit.Goals as goal

pub returns-in-Ok-clause-linked : goal.returns-in-Ok-clause-linked
returns-in-Ok-clause-linked g c =
    IfOk-weaker c.named_unit.result _ _ (λ l h. (resolved c.in-Ok.found, c.in-Ok.ensures.found, h)) c.named_unit.ensures.named

pub returns-in-Ok-clause-refused : goal.returns-in-Ok-clause-refused
returns-in-Ok-clause-refused g c =
    IfErr-weaker c.named_unit.result _ _
    (λ d h. named_refused g.R.Resolver c.args.resolver.now (g.M.Mangler.name_of c.args.mangler) c.args.request.now c.args.root (resolved c.in-Ok.found) c.in-Ok.ensures.found d h)
    c.named_unit.ensures.refused

pub returns-in-Err-clause-refused : goal.returns-in-Err-clause-refused
returns-in-Err-clause-refused g c = inl c.in-Err.ensures.refused
