use Rattle.wesl_tree_syntax.specs.Unit.{name_in}
use Rattle.wesl_tree_syntax.specs.View.{imports_tree}
use Rattle.wesl_tree_spelling.proofs.Shown.{spelling_Decides}
use Rattle.wesl_tree_spelling.proofs.spelling.same_imports.Goals as goal

pub returns : goal.returns
returns c =
    rw c.same_imports.ensures
    (spelling_Decides (name_in c.args.left_names.now) (name_in c.args.right_names.now) (imports_tree c.args.left.now) (imports_tree c.args.right.now))
