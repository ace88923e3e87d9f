use Rattle.std.proofs.Common.{refl}
use Rattle.wesl_json_read.proofs.Noting.{may_next, needs_next, no_more, of_word}
use Rattle.wesl_json_read.proofs.reader.Reader.workgroup_size.Goals as goal

pub returns : goal.returns
returns c = of_word _ refl c.keys.ensures (needs_next refl c.expression_at.ensures (may_next refl c.optional_expression.ensures (may_next refl c.optional_expression-2.ensures no_more)))
