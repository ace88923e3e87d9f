use Rattle.std.proofs.Common.{Contains}
use Rattle.wesl_link_symbols.specs.declared.ids.PathId.{PathId}
use Rattle.wesl_link_ahead.proofs.ahead.Ahead.tell.Given as goal

abbrev pub invariant-loop-place : goal.invariant-loop-place
invariant-loop-place l = (p : PathId) → Contains l.paths.items p → Contains l.self.entered p
