use Rattle.wesl_tree_syntax.specs.View.{directives_tree}
use Rattle.wesl_tree_spelling.proofs.Chains.{left_by, right_by}
use Rattle.wesl_tree_spelling.proofs.Respelled.{tree_Decides}
use Rattle.wesl_tree_spelling.proofs.tables.Tables.directives_agree.Goals as goal

pub returns : goal.returns
returns c =
    rw c.same_directives.ensures
    (tree_Decides c.args.self.now.places (left_by c.args.self.now) (right_by c.args.self.now) (directives_tree c.args.left.now) (directives_tree c.args.right.now))
