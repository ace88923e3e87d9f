use Rattle.std.proofs.Common.{refl, sym}
use Rattle.wesl_json_read.proofs.Noting.{many_next, may_next, no_more, of_word, seen_worded}
use Rattle.wesl_json_read_statements.proofs.simple.return_statement.Goals as goal
use Rattle.wesl_tree_syntax.proofs.Views.{view_return}

pub returns : goal.returns
returns c = seen_worded (λ h. sym (view_return _ _)) (of_word _ refl c.keys.ensures (many_next refl c.attributes.ensures (may_next refl c.optional_expression.ensures no_more)))
