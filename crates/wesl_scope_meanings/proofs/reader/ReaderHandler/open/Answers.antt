use Rattle.std.proofs.Common.{refl}
use Rattle.wesl_scope_meanings.proofs.Reading.{reads_opening}
use Rattle.wesl_scope_meanings.proofs.reader.ReaderHandler.open.Goals as goal

pub returns : goal.returns
returns c = reads_opening c.args.self.now _ refl refl refl refl refl refl c.open.ensures
