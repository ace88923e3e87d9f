use Rattle.std.proofs.Common.{append-nil}
use Rattle.wesl_scope_occurrences.specs.Events.{path_met}
use Rattle.wesl_scope_occurrences.specs.Views.{standing_view}
use Rattle.wesl_scope_occurrences.proofs.Steps.{noted_alone}
use Rattle.wesl_scope_occurrences.proofs.walk.Walk.meet.Goals as goal

pub returns : goal.returns
returns g c =
    noted_alone c.note_path.ensures (append-nil (path_met (standing_view c.args.standing))) c.meet.ensures
