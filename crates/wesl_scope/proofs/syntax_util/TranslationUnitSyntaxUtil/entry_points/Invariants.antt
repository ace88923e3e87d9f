use Rattle.std.proofs.Common.{◌≡◌, ◌++◌, map, drop}
use Rattle.wesl_scope.proofs.EntryPoints.{points}
use Rattle.wesl_scope.proofs.syntax_util.TranslationUnitSyntaxUtil.entry_points.Given as goal

abbrev pub invariant-loop-declaration : goal.invariant-loop-declaration
invariant-loop-declaration l = points l.declaration-items ≡ map (λ i. i.0) l.names.items ++ points (drop l.declaration-index l.declaration-items)
