use Rattle.std.proofs.Common.{◌≡◌, ℕ, map, drop}
use Rattle.std.specs.Prelude.{Option}
use Rattle.std.specs.Option.{option_or}
use Rattle.wesl_scope_occurrences.specs.Views.{occurrence_view}
use Rattle.wesl_scope_clashes.specs.Sightings.{groups_view, first_in, first_met, is_seen}
use Rattle.wesl_scope_clashes.proofs.binders.Binders.visible.Given as goal

abbrev pub invariant-loop-i : goal.invariant-loop-i
invariant-loop-i l = (k p : ℕ) (x : Option ℕ) → option_or (first_in (groups_view l.binders.of.items) k p x) (first_met is_seen (drop l.i l.means) (map occurrence_view (drop l.i l.all)) k p x) ≡ first_met is_seen l.means (map occurrence_view l.all) k p x
