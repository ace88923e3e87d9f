use Rattle.std.proofs.Common.{refl, sym, subst, ap, ◌∙◌}
use Rattle.wesl_tree_names.specs.Path.{path_view}
use Rattle.wesl_resolve_base.specs.Packages.{IsMissingIn, module_at}
use Rattle.wesl_resolve_base.proofs.ResultLemmas.{IfOk-to, refused-to}
use Rattle.wesl_resolve.proofs.package_index.PackageIndex.module_at.Goals as goal

pub returns-in-None-clause-found : goal.returns-in-None-clause-found
returns-in-None-clause-found c = IfOk-to _ _ (λ m h. (m.now, sym (ap (λ ks. module_at ks (path_view c.args.path.now)) c.deref.ensures.value) ∙ h, refl)) c.module_at.result c.module_at.ensures.found

pub returns-in-None-clause-missing : goal.returns-in-None-clause-missing
returns-in-None-clause-missing c = refused-to _ _ (λ e h. subst (λ ks. IsMissingIn ks (path_view c.args.path.now) e) c.deref.ensures.value h) c.module_at.result c.module_at.ensures.missing
