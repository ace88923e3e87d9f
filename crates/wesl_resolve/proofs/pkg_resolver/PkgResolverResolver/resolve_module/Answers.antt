use Rattle.std.proofs.Common.{refl}
use Rattle.wesl_resolve.proofs.pkg_resolver.PkgResolverResolver.resolve_module.Goals as goal

pub returns-clause-handed : goal.returns-clause-handed
returns-clause-handed g c = c.read_at.ensures.read

pub returns-clause-refused : goal.returns-clause-refused
returns-clause-refused g c = c.read_at.ensures.refused

pub returns-clause-unchanged : goal.returns-clause-unchanged
returns-clause-unchanged g c = refl
