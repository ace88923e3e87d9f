use Rattle.std.proofs.Common.{refl, sym}
use Rattle.wesl_json_read.proofs.Noting.{many_next, needs_next, no_more, of_word, seen_worded}
use Rattle.wesl_json_read_statements.proofs.simple.step.Goals as goal
use Rattle.wesl_tree_syntax.proofs.Views.{view_decrement, view_increment}

pub returns-in-Increment : goal.returns-in-Increment
returns-in-Increment c = rw c.in-Increment.is (seen_worded (λ h. sym (view_increment _ _)) (of_word _ refl c.keys.ensures (many_next refl c.attributes-attributes.ensures (needs_next refl c.expression_at-expression.ensures no_more))))

pub returns-in-Decrement : goal.returns-in-Decrement
returns-in-Decrement c = rw c.in-Decrement.is (seen_worded (λ h. sym (view_decrement _ _)) (of_word _ refl c.keys.ensures (many_next refl c.attributes-attributes.ensures (needs_next refl c.expression_at-expression.ensures no_more))))
