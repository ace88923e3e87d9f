use Rattle.wesl_tree_syntax.specs.View.{declaration_view}
use Rattle.wesl_text_read_simple.proofs.Wholes.{local_read}
use Rattle.wesl_text_read_simple.proofs.variable.read_local_variable.Goals as goal

pub returns : goal.returns
returns c = local_read (declaration_view c.read_variable-declaration.result).children c.stands_in_function.result c.wrong_if.ensures.refuses c.wrong_if.ensures.same c.read_variable-declaration.ensures c.requires c.stands_in_function.ensures
