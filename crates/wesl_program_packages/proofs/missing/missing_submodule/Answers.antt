use Rattle.std.proofs.Common.{◌≡◌, ◌++◌, ◌∙◌, codes}
use Rattle.std.proofs.lemmas.List.{append_assoc}
use Rattle.wesl_tree_names.specs.Path.{Text, path_view}
use Rattle.wesl_resolve_base.specs.Packages.{no_submodule}
use Rattle.wesl_resolve_base.proofs.ResultLemmas.{IfOk-to, said-as}
use Rattle.wesl_program_packages.proofs.missing.missing_submodule.Goals as goal

joined : (name component : Text) → codes "in module `" ++ (name ++ (codes "`, no submodule named `" ++ (component ++ codes "`"))) ≡ no_submodule name component
joined name component = simp append_assoc

pub returns : goal.returns
returns c =
    let message = c.format-message.result in
    said-as (path_view c.args.path.now) (no_submodule c.args.name.now c.args.component.now) c.not_found_for.result message
    (IfOk-to _ _ (λ text is. is ∙ joined c.args.name.now c.args.component.now) message c.format-message.ensures.ok) c.not_found_for.ensures
