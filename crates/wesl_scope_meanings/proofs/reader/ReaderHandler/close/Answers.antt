use Rattle.std.proofs.Common.{refl}
use Rattle.wesl_scope_meanings.proofs.Reading.{reads_closing}
use Rattle.wesl_scope_meanings.proofs.reader.ReaderHandler.close.Goals as goal

pub returns : goal.returns
returns c = reads_closing c.args.self.now _ refl refl refl refl refl refl c.close.ensures
