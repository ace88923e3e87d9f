use Rattle.std.proofs.Common.{sym, ap, ◌∙◌, inl, refl}
use Rattle.wesl_tree_base.specs.Borrowed.{texts}
use Rattle.wesl_tree_names.specs.Path.{path_view}
use Rattle.wesl_resolve_base.proofs.PackagesLemmas.{found-as, missing-as}
use Rattle.wesl_program_packages.specs.Held.{held_among}
use Rattle.wesl_program_packages.proofs.held.HeldPackages.unit_at.Goals as goal

pub returns-in-Ok-clause-found : goal.returns-in-Ok-clause-found
returns-in-Ok-clause-found c =
    let same = ap (λ parts. held_among c.args.name.now c.args.self.now.packages parts (path_view c.args.path.now).components) (sym c.in-Ok.ensures ∙ ap texts (sym c.deref.ensures.value)) in
    found-as _ _ _ same c.unit_among.result c.unit_among.ensures.found

pub returns-in-Ok-clause-missing : goal.returns-in-Ok-clause-missing
returns-in-Ok-clause-missing c =
    let same = ap (λ parts. held_among c.args.name.now c.args.self.now.packages parts (path_view c.args.path.now).components) (sym c.in-Ok.ensures ∙ ap texts (sym c.deref.ensures.value)) in
    missing-as (path_view c.args.path.now) _ _ same c.unit_among.result c.unit_among.ensures.missing

pub returns-in-Err-clause-missing : goal.returns-in-Err-clause-missing
returns-in-Err-clause-missing c = inl refl
