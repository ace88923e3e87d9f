use Rattle.std.proofs.Common.{refl}
use Rattle.wesl_scope_occurrences.specs.Views.{here_view, standing_view}
use Rattle.wesl_scope_open.proofs.Tables.{pushed}
use Rattle.wesl_scope_meanings.proofs.Reading.{reads_meeting}
use Rattle.wesl_scope_meanings.proofs.reader.ReaderHandler.meet.Goals as goal

pub returns : goal.returns
returns c =
    reads_meeting c.args.self.now _ _ (here_view c.args.here.now) (standing_view c.args.standing) c.args.ident.0 c.name-name.result c.read.result c.new-sense.result c.is_err.result
    c.name-name.ensures c.read.ensures c.new-sense.ensures refl refl refl refl refl
    (λ k. pushed c.push.result c.args.self.now.is_refused c.is_err.result _ _ _ c.is_err.ensures.value c.push.ensures.items k) c.paths_with-self.ensures c.note.ensures
