use Rattle.std.proofs.Common.{ap, refl}
use Rattle.wesl_tree_syntax.specs.View.{optional, path_tree}
use Rattle.wesl_tree_copies.proofs.Parts.{copied_path, seen}
use Rattle.wesl_tree_copies.proofs.copying.Copying.path.Goals as goal

pub returns-in-Some : goal.returns-in-Some
returns-in-Some c =
    seen (ap (optional path_tree) c.in-Some.is) refl (copied_path _ _ c.in-Some.path _ _ c.try_clone.ensures.equal c.made.ensures.given c.made.ensures.same c.made.ensures.noted)
