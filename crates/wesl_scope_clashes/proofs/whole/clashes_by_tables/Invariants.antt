use Rattle.std.proofs.Common.{◌≡◌, ◌++◌, map, drop}
use Rattle.wesl_scope_occurrences.specs.Views.{occurrence_view}
use Rattle.wesl_scope_strip.specs.Marks.{mark_at}
use Rattle.wesl_scope_clashes.specs.Clashes.{clash_view}
use Rattle.wesl_scope_clashes.specs.Sightings.{groups_view, first_in}
use Rattle.wesl_scope_clashes.specs.ByMeaning.{clashes_by}
use Rattle.wesl_scope_clashes.proofs.whole.clashes_by_tables.Given as goal

abbrev pub invariant-loop-i : goal.invariant-loop-i
invariant-loop-i l = map clash_view l.clashes.items ++ clashes_by (first_in (groups_view l.visible.of.items)) (first_in (groups_view l.globals.of.items)) (mark_at l.bound) l.names (drop l.i l.means) (map occurrence_view (drop l.i l.all)) ≡ clashes_by (first_in (groups_view l.visible.of.items)) (first_in (groups_view l.globals.of.items)) (mark_at l.bound) l.names l.means (map occurrence_view l.all)
