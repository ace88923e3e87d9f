use Rattle.std.proofs.Common.{◌≡◌, refl, inl, inr}
use Rattle.wesl_tree_names.specs.Path.{path_view}
use Rattle.wesl_tree_names.specs.declared.path.ModulePath.{ModulePath}
use Rattle.wesl_resolve_base.proofs.ResultLemmas.{IfSome-of}
use Rattle.wesl_resolve_base.proofs.refusals.not_found.Goals as goal

pub returns-in_default : goal.returns-in_default
returns-in_default c = inl refl

pub returns-in-Some : goal.returns-in-Some
returns-in-Some c =
    let Copied : ModulePath → Type 0 = λ p. path_view p ≡ path_view c.args.path.now in
    inr (IfSome-of Copied c.try_clone.result c.in-Some.path c.in-Some.ensures c.try_clone.ensures.equal, c.in-Ok.ensures.ok)

pub returns-in-None : goal.returns-in-None
returns-in-None c = inl refl
