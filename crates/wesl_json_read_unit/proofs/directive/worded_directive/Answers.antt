use Rattle.std.proofs.Common.{refl}
use Rattle.wesl_json_read.proofs.Noting.{many_next, needs_next, no_more, of_word}
use Rattle.wesl_json_read_unit.proofs.directive.worded_directive.Goals as goal

pub returns-in-Enable : goal.returns-in-Enable
returns-in-Enable c = rw c.in-Enable.is (of_word _ refl c.keys.ensures (many_next refl c.attributes.ensures (many_next refl c.names.ensures no_more)))

pub returns-in-Requires : goal.returns-in-Requires
returns-in-Requires c = rw c.in-Requires.is (of_word _ refl c.keys-in-Requires.ensures (many_next refl c.attributes-in-Requires.ensures (many_next refl c.names-in-Requires.ensures no_more)))

pub returns-in-Diagnostic : goal.returns-in-Diagnostic
returns-in-Diagnostic c = rw c.in-Diagnostic.is (of_word _ refl c.keys-in-Diagnostic.ensures (many_next refl c.attributes-in-Diagnostic.ensures (needs_next refl c.text.ensures (needs_next refl c.text-in-Diagnostic.ensures no_more))))
