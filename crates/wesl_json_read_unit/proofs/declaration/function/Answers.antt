use Rattle.wesl_tree_syntax.specs.Tree.{binder}
use Rattle.std.proofs.Common.{refl}
use Rattle.wesl_json_read.proofs.Noting.{many_next, may_next, needs_next, no_more, of_word}
use Rattle.wesl_json_read_unit.proofs.declaration.function.Goals as goal

pub returns : goal.returns
returns c = of_word _ refl c.keys.ensures (many_next refl c.attributes.ensures (needs_next refl (c.ident_at.ensures binder) (many_next refl c.parameters.ensures (many_next refl c.attributes-2.ensures (may_next refl c.optional_type.ensures (needs_next refl c.body.ensures no_more))))))
