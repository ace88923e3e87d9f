use Rattle.wesl_tree_syntax.specs.Tree.{binder}
use Rattle.std.proofs.Common.{refl}
use Rattle.wesl_json_read.proofs.Noting.{many_next, needs_next, no_more, of_word}
use Rattle.wesl_json_read_unit.proofs.declaration.worded_declaration.Goals as goal

pub returns-in-Alias : goal.returns-in-Alias
returns-in-Alias c = rw c.in-Alias.is (of_word _ refl c.keys.ensures (many_next refl c.attributes.ensures (needs_next refl (c.ident_at.ensures binder) (needs_next refl c.type_at.ensures no_more))))

pub returns-in-Struct : goal.returns-in-Struct
returns-in-Struct c = rw c.in-Struct.is (of_word _ refl c.keys-in-Struct.ensures (many_next refl c.attributes-in-Struct.ensures (needs_next refl (c.ident_at-in-Struct.ensures binder) (many_next refl c.members.ensures no_more))))
