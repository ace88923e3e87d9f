use Rattle.std.proofs.Common.{◌≡◌, ◌≤◌, ◌-◌, ◌*◌, length}
use Rattle.wesl_cond_covers.specs.Unseen.{AreUnions}
use Rattle.wesl_cond_covers.proofs.unions.add_unions.Given as goal

abbrev pub invariant-loop-start : goal.invariant-loop-start
invariant-loop-start l = record {
  begins : l.start ≡ length l.unions.items * l.span;
  within : l.start ≤ length l.places;
  unions : AreUnions l.alive l.places l.span l.unions.items;
}

abbrev pub decreases-loop-start : goal.decreases-loop-start
decreases-loop-start l = length l.places - l.start
