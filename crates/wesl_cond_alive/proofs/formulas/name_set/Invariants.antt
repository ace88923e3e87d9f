use Rattle.std.proofs.Common.{◌≡◌, ℕ, ◌/◌, ◌^◌, drop}
use Rattle.wesl_tree_base.specs.Borrowed.{texts}
use Rattle.wesl_cond_alive.specs.Choices.{choice_of}
use Rattle.wesl_cond_alive.proofs.formulas.name_set.Given as goal

abbrev pub invariant-loop-i : goal.invariant-loop-i
invariant-loop-i l = (k : ℕ) → choice_of (texts l.flags) k l.name ≡ choice_of (texts (drop l.i l.flags)) (k / 2 ^ l.i) l.name
