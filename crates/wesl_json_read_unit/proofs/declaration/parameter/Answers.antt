use Rattle.wesl_tree_syntax.specs.Tree.{binder}
use Rattle.std.proofs.Common.{refl}
use Rattle.wesl_json_read.proofs.Noting.{many_next, needs_next, no_more, of_bare}
use Rattle.wesl_json_read_unit.proofs.declaration.parameter.Goals as goal

pub returns : goal.returns
returns c = of_bare refl refl refl c.keys.ensures (many_next refl c.attributes.ensures (needs_next refl (c.ident_at.ensures binder) (needs_next refl c.type_at.ensures no_more)))
