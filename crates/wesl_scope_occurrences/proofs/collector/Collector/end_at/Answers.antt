use Rattle.std.proofs.Common.{◌≡◌, arith, length, ◌≤◌, ◌<◌, ◌∙◌, refl}
use Rattle.wesl_scope_occurrences.specs.Views.{occurrence_view}
use Rattle.wesl_scope_occurrences.proofs.Ended.{ended_item, ended_past}
use Rattle.wesl_scope_occurrences.proofs.collector.Collector.end_at.Goals as goal

pub returns-else-place-end : goal.returns-else-place-end
returns-else-place-end c =
    let v = c.args.self.now.found in
    let h : length v.items ≤ c.args.place = omega (arith, c.len-end.ensures, v.ok.0, c.if-place-end.false) in
    record { found = ended_past occurrence_view (length v.items) c.args.place v.items h; is_refused = refl; qualified = refl; naming = refl; starts = refl }

pub returns-then-place-end : goal.returns-then-place-end
returns-then-place-end c =
    let v = c.args.self.now.found in
    let h : c.args.place < length v.items = omega (arith, c.len-end.ensures, v.ok.0, c.if-place-end.true) in
    let n : c.len-end.result ≡ length v.items = c.len-end.ensures ∙ v.ok.0 in
    record {
      found = ended_item v.items c.args.place (length v.items) c.len-end.result c.index_mut.result.now c.index.result.now c.ended-standing.result h c.index_mut.ensures.value c.index.ensures n c.ended-standing.ensures;
      is_refused = refl;
      qualified = refl;
      naming = refl;
      starts = refl;
    }
