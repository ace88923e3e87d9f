use Rattle.wesl_cond_covers.specs.Unseen.{AreIn}
use Rattle.wesl_cond_covers.proofs.unions.add_range.Given as goal

abbrev pub invariant-loop-i : goal.invariant-loop-i
invariant-loop-i l = AreIn l.alive l.places l.all l.start l.i
