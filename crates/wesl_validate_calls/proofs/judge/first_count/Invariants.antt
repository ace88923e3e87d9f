use Rattle.std.proofs.Common.{◌≡◌, drop, map}
use Rattle.wesl_validate_calls.specs.Judged.{first_some, count_of}
use Rattle.wesl_validate_calls.specs.Tables.{shape_at}
use Rattle.wesl_validate_calls.specs.Views.{shape_view}
use Rattle.wesl_validate_calls.proofs.judge.first_count.Given as goal

abbrev pub invariant-loop-declaration : goal.invariant-loop-declaration
invariant-loop-declaration l = first_some (λ j. count_of (shape_at (map shape_view l.shapes.items) j)) (drop l.declaration-index l.declarers.items) ≡ first_some (λ j. count_of (shape_at (map shape_view l.shapes.items) j)) l.declarers.items
