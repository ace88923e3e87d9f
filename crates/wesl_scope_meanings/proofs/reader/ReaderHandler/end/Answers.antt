use Rattle.wesl_scope_occurrences.specs.Views.{here_view}
use Rattle.wesl_scope_meanings.proofs.Reading.{reads_end}
use Rattle.wesl_scope_meanings.proofs.reader.ReaderHandler.end.Goals as goal

pub returns : goal.returns
returns c = reads_end c.args.self.now _ (here_view c.args.here.now) c.args.ident.0 c.name-name.result c.name-name.ensures c.make_visible.ensures
