use Rattle.std.proofs.Common.{refl, sym}
use Rattle.wesl_json_read.proofs.Noting.{many_next, needs_next, no_more, of_word, seen_worded}
use Rattle.wesl_json_read_statements.proofs.simple.call_statement.Goals as goal
use Rattle.wesl_tree_syntax.proofs.Views.{view_call_statement}

pub returns : goal.returns
returns c = seen_worded (λ h. sym (view_call_statement _ _)) (of_word _ refl c.keys.ensures (many_next refl c.attributes.ensures (needs_next refl c.call.ensures no_more)))
