use Rattle.std.proofs.Common.{refl}
use Rattle.wesl_json_read.proofs.Noting.{needs_next, no_more, of_word}
use Rattle.wesl_json_read.proofs.reader.Reader.diagnostic.Goals as goal

pub returns : goal.returns
returns c = of_word _ refl c.keys.ensures (needs_next refl c.text.ensures (needs_next refl c.text-2.ensures no_more))
