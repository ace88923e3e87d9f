use Rattle.std.proofs.Common.{◌≡◌, drop}
use Rattle.wesl_scope.proofs.EntryPoints.{one_stage}
use Rattle.wesl_scope.proofs.entry_points.has_stage.Given as goal

abbrev pub invariant-loop-attribute : goal.invariant-loop-attribute
invariant-loop-attribute l = one_stage l.attribute-items ≡ one_stage (drop l.attribute-index l.attribute-items)
