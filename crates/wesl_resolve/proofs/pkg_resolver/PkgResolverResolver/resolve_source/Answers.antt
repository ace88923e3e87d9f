use Rattle.std.proofs.Common.{refl, sym, ◌∙◌, inl}
use Rattle.wesl_resolve_base.proofs.ResultLemmas.{IfOk-to, IfErr-to}
use Rattle.wesl_resolve.proofs.pkg_resolver.PkgResolverResolver.resolve_source.Goals as goal

pub returns-in-Ok-clause-given : goal.returns-in-Ok-clause-given
returns-in-Ok-clause-given g c =
    let found = c.in-Ok.ensures.found in
    IfOk-to _ _ (λ text is. (found.0, found.1, found.2 ∙ sym c.as_str.ensures.value ∙ sym is)) c.copied.result c.copied.ensures.same

pub returns-in-Ok-clause-refused : goal.returns-in-Ok-clause-refused
returns-in-Ok-clause-refused g c = IfErr-to _ _ (λ e h. inl h) c.copied.result c.copied.ensures.refused

pub returns-in-Err-clause-given : goal.returns-in-Err-clause-given
returns-in-Err-clause-given g c = tt

pub returns-in-Err-clause-refused : goal.returns-in-Err-clause-refused
returns-in-Err-clause-refused g c = c.in-Err.ensures.missing

pub returns-in-Ok-clause-unchanged : goal.returns-in-Ok-clause-unchanged
returns-in-Ok-clause-unchanged g c = refl

pub returns-in-Err-clause-unchanged : goal.returns-in-Err-clause-unchanged
returns-in-Err-clause-unchanged g c = refl
