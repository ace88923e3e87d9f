use Rattle.std.proofs.Common.{◌≡◌, ◌-◌, ℕ, suc, length}
use Rattle.wesl_scope_values.specs.Values.{value_at}
use Rattle.wesl_scope_values.proofs.handing.grow.Given as goal

abbrev pub invariant-loop-values : goal.invariant-loop-values
invariant-loop-values l = (m : ℕ) → value_at l.values.items m ≡ value_at l.initial.values.items m

abbrev pub decreases-loop-values : goal.decreases-loop-values
decreases-loop-values l = suc l.node - length l.values.items
