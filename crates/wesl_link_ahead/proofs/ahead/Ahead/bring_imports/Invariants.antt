use Rattle.wesl_link_ahead.specs.Ahead.{IsAheadIn}
use Rattle.wesl_link_ahead.proofs.ahead.Ahead.bring_imports.Given as goal

abbrev pub invariant-loop-import : goal.invariant-loop-import
invariant-loop-import l = IsAheadIn l.linking l.self
