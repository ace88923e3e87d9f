use Rattle.std.proofs.Common.{◌≡◌, ◌-◌, ℕ, suc, length}
use Rattle.wesl_tree_names.specs.Path.{Text}
use Rattle.wesl_scope_words.specs.Finding.{first_in, groups_view}
use Rattle.wesl_scope_words.proofs.rivals.Rivals.grow.Given as goal

abbrev pub invariant-loop-alloc : goal.invariant-loop-alloc
invariant-loop-alloc l = (b : ℕ) (w : Text) (p : ℕ) → first_in (groups_view l.self.of.items) b w p ≡ first_in (groups_view l.initial.self.of.items) b w p

abbrev pub decreases-loop-alloc : goal.decreases-loop-alloc
decreases-loop-alloc l = suc l.block - length l.self.of.items
