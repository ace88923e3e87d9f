use Rattle.std.proofs.Common.{◌≡◌, ◌-◌, ℕ, suc, length}
use Rattle.std.specs.Prelude.{Option}
use Rattle.wesl_scope_clashes.specs.Sightings.{groups_view, first_in}
use Rattle.wesl_scope_clashes.proofs.binders.Binders.grow.Given as goal

abbrev pub invariant-loop-alloc : goal.invariant-loop-alloc
invariant-loop-alloc l = (k p : ℕ) (x : Option ℕ) → first_in (groups_view l.self.of.items) k p x ≡ first_in (groups_view l.initial.self.of.items) k p x

abbrev pub decreases-loop-alloc : goal.decreases-loop-alloc
decreases-loop-alloc l = suc l.meaning - length l.self.of.items
