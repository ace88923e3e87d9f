use Rattle.std.proofs.Common.{◌≡◌, ◌<◌, ℕ, length}
use Rattle.wesl_scope_values.specs.Values.{value_at}
use Rattle.wesl_validate_calls.specs.Judged.{count_at}
use Rattle.wesl_validate_calls.specs.Views.{tables_view}
use Rattle.wesl_validate_calls.proofs.ends.counts_of.Given as goal

abbrev pub invariant-loop-number : goal.invariant-loop-number
invariant-loop-number l = record {
  sized : length l.counts.items ≡ l.number;
  same : (e : ℕ) → e < l.number → value_at l.counts.items e ≡ count_at (tables_view l.tables) e;
}
