use Rattle.std.proofs.Common.{refl}
use Rattle.wesl_tree_syntax.specs.Tree.{const_assert}
use Rattle.wesl_tree_syntax.specs.View.{assert_view}
use Rattle.wesl_text_read_simple.specs.Parts.{assertion_row}
use Rattle.wesl_text_read_simple.proofs.Nodes.{declaration_read}
use Rattle.wesl_text_read_simple.proofs.assertion.read_global_assertion.Goals as goal

pub returns : goal.returns
returns c = declaration_read const_assert assertion_row (assert_view c.read_assertion.result).children refl (λ f. refl) (λ ts. refl) c.requires c.read_assertion.ensures
