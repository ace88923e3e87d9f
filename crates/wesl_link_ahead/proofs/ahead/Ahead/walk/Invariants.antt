use Rattle.wesl_link_ahead.specs.Ahead.{ComesTo, IsAheadIn, KeepsAsked}
use Rattle.wesl_link_ahead.proofs.ahead.Ahead.walk.Given as goal

abbrev pub invariant-loop-hop : goal.invariant-loop-hop
invariant-loop-hop l = record {
  ahead : IsAheadIn l.linking l.self;
  way : ComesTo l.linking l.self l.current;
  keeps : KeepsAsked l.fn.self l.self;
}
