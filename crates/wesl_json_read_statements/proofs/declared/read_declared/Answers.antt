use Rattle.std.proofs.Common.{refl}
use Rattle.wesl_json_read.proofs.Noting.{many_next, needs_next, no_more, of_word}
use Rattle.wesl_json_read_statements.proofs.declared.read_declared.Goals as goal

pub returns-in-Assert : goal.returns-in-Assert
returns-in-Assert c = rw c.in-Assert.is (of_word _ refl c.keys.ensures (many_next refl c.attributes.ensures (needs_next refl c.expression_at.ensures no_more)))

pub returns-in-Void : goal.returns-in-Void
returns-in-Void c = rw c.in-Void.is (of_word _ refl c.keys-in-Void.ensures no_more)
