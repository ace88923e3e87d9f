use Rattle.wesl_link_ahead.specs.Ahead.{IsAheadIn}
use Rattle.wesl_link_ahead.proofs.ahead.Ahead.follow_kept.Given as goal

abbrev pub invariant-loop-name : goal.invariant-loop-name
invariant-loop-name l = IsAheadIn l.linking l.self
