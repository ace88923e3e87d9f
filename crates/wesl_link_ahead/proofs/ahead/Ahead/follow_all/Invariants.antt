use Rattle.wesl_link_ahead.specs.Ahead.{IsAheadIn}
use Rattle.wesl_link_ahead.proofs.ahead.Ahead.follow_all.Given as goal

abbrev pub invariant-loop-look_up : goal.invariant-loop-look_up
invariant-loop-look_up l = IsAheadIn l.linking l.self
