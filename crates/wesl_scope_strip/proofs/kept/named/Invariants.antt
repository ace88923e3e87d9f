use Rattle.std.proofs.Common.{◌≡◌, ℕ, ◌<◌, length}
use Rattle.wesl_tree_syntax.specs.Unit.{name_in}
use Rattle.wesl_scope_strip.specs.Marks.{mark_at}
use Rattle.wesl_scope_strip.specs.Sets.{is_text_of}
use Rattle.wesl_scope_strip.proofs.kept.named.Given as goal

abbrev pub invariant-loop-i : goal.invariant-loop-i
invariant-loop-i l = record {
  all : length l.wanted.items ≡ l.i;
  marked : (m : ℕ) → m < l.i → mark_at l.wanted.items m ≡ is_text_of l.keep (name_in l.names m);
}
