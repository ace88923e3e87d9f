use Rattle.wesl_link_ahead.specs.Ahead.{IsAheadIn}
use Rattle.wesl_link_ahead.proofs.ahead.Ahead.hold_declared.Given as goal

abbrev pub invariant-loop-declaration : goal.invariant-loop-declaration
invariant-loop-declaration l = IsAheadIn l.linking l.self
