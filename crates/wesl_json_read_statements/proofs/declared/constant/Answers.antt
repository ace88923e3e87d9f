use Rattle.std.proofs.Common.{refl, rules}
use Rattle.wesl_tree_syntax.specs.Tree.{binder}
use Rattle.wesl_json_read.proofs.Noting.{inner_next, many_next, may_next, needs_next, no_more, of_word, seen_worded}
use Rattle.wesl_json_read_statements.proofs.declared.constant.Goals as goal

pub returns : goal.returns
returns c = seen_worded (λ h. search rules) (of_word _ refl c.keys.ensures (many_next refl c.attributes.ensures (inner_next no_more (needs_next refl (c.ident_at.ensures binder) (may_next refl c.optional_type.ensures (may_next refl c.optional_expression.ensures no_more))))))
