use Rattle.wesl_link_ahead.specs.Ahead.{IsAheadIn, KeepsAsked}
use Rattle.wesl_link_ahead.proofs.ahead.Ahead.wake_all.Given as goal

abbrev pub invariant-loop-look_up : goal.invariant-loop-look_up
invariant-loop-look_up l = record {
  ahead : IsAheadIn l.linking l.self;
  keeps : KeepsAsked l.fn.self l.self;
}
