use Rattle.std.proofs.Common.{refl, sym}
use Rattle.wesl_tree_syntax.specs.Tree.{const_assert}
use Rattle.wesl_tree_syntax.specs.View.{assert_view}
use Rattle.wesl_text_read.proofs.Expressions.{viewed}
use Rattle.wesl_text_read_simple.specs.Parts.{assertion_row}
use Rattle.wesl_text_read_simple.proofs.Nodes.{statement_read}
use Rattle.wesl_text_read_simple.proofs.plain.read_local_assertion.Goals as goal
use Rattle.wesl_tree_syntax.proofs.Views.{view_const_assert}

pub returns : goal.returns
returns c =
    viewed _ _ (sym (view_const_assert c.read_assertion.result))
    (statement_read const_assert assertion_row (assert_view c.read_assertion.result).children refl (λ f. refl) (λ ts. refl) c.requires c.read_assertion.ensures)
