use Rattle.wesl_link_ahead.specs.Ahead.{IsAheadIn}
use Rattle.wesl_link_ahead.proofs.ahead.Ahead.take_symbols.Given as goal

abbrev pub invariant-loop-turn : goal.invariant-loop-turn
invariant-loop-turn l = IsAheadIn l.linking l.self
