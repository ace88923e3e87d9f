use Rattle.std.proofs.Common.{◌∙◌, ap, sym, inl, refl}
use Rattle.wesl_tree_names.specs.Path.{path_view}
use Rattle.wesl_tree_base.specs.Borrowed.{texts}
use Rattle.wesl_resolve_base.specs.Packages.{package_at}
use Rattle.wesl_resolve_base.proofs.PackagesLemmas.{found-as, missing-as}
use Rattle.wesl_resolve_base.proofs.packages.package_at.Goals as goal

pub returns-in-Ok-clause-found : goal.returns-in-Ok-clause-found
returns-in-Ok-clause-found c =
    let same = ap (package_at c.args.packages.now c.args.whole.now) (sym c.in-Ok.ensures ∙ ap texts (sym c.deref.ensures.value)) in
    found-as _ _ _ same c.package_among.result c.package_among.ensures.found

pub returns-in-Ok-clause-missing : goal.returns-in-Ok-clause-missing
returns-in-Ok-clause-missing c =
    let same = ap (package_at c.args.packages.now c.args.whole.now) (sym c.in-Ok.ensures ∙ ap texts (sym c.deref.ensures.value)) in
    missing-as (path_view c.args.path.now) _ _ same c.package_among.result c.package_among.ensures.missing

pub returns-in-Err-clause-missing : goal.returns-in-Err-clause-missing
returns-in-Err-clause-missing c = inl refl
