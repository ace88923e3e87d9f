use Rattle.std.proofs.Common.{◌≡◌, ◌++◌, ◌∙◌, codes}
use Rattle.std.proofs.lemmas.List.{append_assoc}
use Rattle.wesl_tree_names.specs.Path.{Text, path_view}
use Rattle.wesl_resolve_base.specs.Packages.{no_dependency}
use Rattle.wesl_resolve_base.proofs.ResultLemmas.{IfOk-to, said-as}
use Rattle.wesl_program_packages.proofs.missing.missing_dependency.Goals as goal

joined : (part whole : Text) → codes "dependency `" ++ (part ++ (codes "` not found in package path `" ++ (whole ++ codes "`"))) ≡ no_dependency part whole
joined part whole = simp append_assoc

pub returns : goal.returns
returns c =
    let message = c.format-message.result in
    said-as (path_view c.args.path.now) (no_dependency c.args.part.now c.args.whole.now) c.not_found_for.result message
    (IfOk-to _ _ (λ text is. is ∙ joined c.args.part.now c.args.whole.now) message c.format-message.ensures.ok) c.not_found_for.ensures
