use Rattle.std.proofs.Common.{arith, refl, ap}
use Rattle.wesl_scope_occurrences.specs.Views.{here_view, standing_view}
use Rattle.wesl_scope_occurrences.proofs.Showing.{meet_collects, pushed}
use Rattle.wesl_scope_occurrences.proofs.collector.CollectorHandler.meet.Goals as goal

pub returns : goal.returns
returns c =
    let h = here_view c.args.here.now in
    meet_collects c.args.self.now _ c.note_path.new.self _ h (standing_view c.args.standing) c.args.ident.0 c.len-place.result _ refl refl refl (omega (arith, c.len-place.ensures, c.args.self.now.found.ok.0))
    (ap (λ r. record { role = r; name = c.args.ident.0; place = c.len-place.result; block = h.block; declaration = h.declaration; excused = h.excused }) c.without_path.ensures)
    (λ k. pushed c.push.result c.args.self.now.is_refused c.is_err.result _ _ _ c.is_err.ensures.value c.push.ensures.items k) c.note_path.ensures c.note_name.ensures
