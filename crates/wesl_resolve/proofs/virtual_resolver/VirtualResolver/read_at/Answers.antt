use Rattle.std.proofs.Common.{inl, inr, ⊎_elim}
use Rattle.wesl_resolve_base.proofs.ResultLemmas.{IfOk-to, refused-to}
use Rattle.wesl_resolve.proofs.virtual_resolver.VirtualResolver.read_at.Goals as goal

pub returns-in-Ok-clause-read : goal.returns-in-Ok-clause-read
returns-in-Ok-clause-read g c = IfOk-to _ _ (λ u h. (c.in-Ok.source.now, c.in-Ok.ensures.found, h)) c.read_module.result c.read_module.ensures.read

pub returns-in-Ok-clause-refused : goal.returns-in-Ok-clause-refused
returns-in-Ok-clause-refused g c = refused-to _ _ (λ e h. inr (c.in-Ok.source.now, c.in-Ok.ensures.found, h)) c.read_module.result c.read_module.ensures.refused

pub returns-in-Err-clause-read : goal.returns-in-Err-clause-read
returns-in-Err-clause-read g c = tt

pub returns-in-Err-clause-refused : goal.returns-in-Err-clause-refused
returns-in-Err-clause-refused g c = ⊎_elim inl (λ missing. inr (inl missing)) c.in-Err.ensures.missing
