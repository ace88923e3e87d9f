use Rattle.std.proofs.Common.{◌≡◌, ◌<◌, ℕ, length}
use Rattle.wesl_scope_strip.specs.Marks.{mark_at}
use Rattle.wesl_validate_builtins.specs.Builtins.{builtins_view}
use Rattle.wesl_validate_calls.specs.Ends.{is_open_at}
use Rattle.wesl_validate_calls.specs.Views.{tables_view}
use Rattle.wesl_validate_calls.proofs.ends.open_numbers.Given as goal

abbrev pub invariant-loop-number : goal.invariant-loop-number
invariant-loop-number l = record {
  sized : length l.marks.items ≡ l.number;
  same : (e : ℕ) → e < l.number → mark_at l.marks.items e ≡ is_open_at (tables_view l.tables) l.names (builtins_view l.callables.builtins.now) e;
}
