use Rattle.std.proofs.Common.{refl, sym}
use Rattle.wesl_json_read.proofs.Noting.{many_next, needs_next, no_more, of_word, seen_worded}
use Rattle.wesl_json_read.proofs.reader.Reader.worded_attribute.Goals as goal

pub returns-in-Builtin : goal.returns-in-Builtin
returns-in-Builtin c = rw c.in-Builtin.is (of_word _ refl c.keys-in-Builtin.ensures (needs_next refl c.text.ensures no_more))

pub returns-in-Interpolate : goal.returns-in-Interpolate
returns-in-Interpolate c = rw c.in-Interpolate.is (of_word _ refl c.keys-in-Interpolate.ensures (many_next refl c.names.ensures no_more))

pub returns-in-Operand : goal.returns-in-Operand
returns-in-Operand c = rw c.in-Operand.is (seen_worded (λ h. sym c.attribute_of.ensures) (of_word _ refl c.keys.ensures (needs_next refl c.expression_at.ensures no_more)))
