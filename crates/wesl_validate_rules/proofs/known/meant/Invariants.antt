use Rattle.std.proofs.Common.{◌≡◌, ℕ, ◌<◌, length}
use Rattle.wesl_tree_syntax.specs.Unit.{name_in}
use Rattle.wesl_scope_strip.specs.Marks.{mark_at}
use Rattle.wesl_validate_builtins.specs.Builtins.{builtins_view}
use Rattle.wesl_validate_rules.specs.Known.{is_meant}
use Rattle.wesl_validate_rules.proofs.known.meant.Given as goal

abbrev pub invariant-loop-i : goal.invariant-loop-i
invariant-loop-i l = record {
  all : length l.known.items ≡ l.i;
  marked : (m : ℕ) → m < l.i → mark_at l.known.items m ≡ is_meant (builtins_view l.builtins) (name_in l.names m);
}
