use Rattle.wesl_tree_syntax.specs.View.{expression_tree}
use Rattle.wesl_text_read_simple.proofs.Parts.{wildcard_read}
use Rattle.wesl_text_read_simple.proofs.Views.{wild-placed}
use Rattle.wesl_text_read_simple.proofs.expressed.read_wildcard.Goals as goal

pub returns : goal.returns
returns c = wildcard_read (expression_tree c.placed.result) c.number_of-ident.result.0 (λ f. wild-placed f c.number_of-ident.result c.placed.result c.placed.ensures) c.skip_word.ensures c.number_of-ident.ensures
