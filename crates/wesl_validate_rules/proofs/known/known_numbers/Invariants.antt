use Rattle.std.proofs.Common.{◌≡◌, ℕ, ◌<◌, ◌||◌, length, map, drop}
use Rattle.wesl_tree_syntax.specs.Unit.{name_in}
use Rattle.wesl_scope_occurrences.specs.Views.{occurrence_view}
use Rattle.wesl_scope_strip.specs.Marks.{mark_at}
use Rattle.wesl_validate_builtins.specs.Builtins.{builtins_view}
use Rattle.wesl_validate_rules.specs.Known.{binds, is_meant}
use Rattle.wesl_validate_rules.proofs.known.known_numbers.Given as goal

abbrev pub invariant-loop-occurrence : goal.invariant-loop-occurrence
invariant-loop-occurrence l = record {
  all : length l.known.items ≡ length l.names;
  marked : (m : ℕ) → m < length l.names → (mark_at l.known.items m || binds (map occurrence_view (drop l.occurrence-index l.found.all.items)) m) ≡ (is_meant (builtins_view l.builtins) (name_in l.names m) || binds (map occurrence_view l.found.all.items) m);
}
