use Rattle.std.proofs.Common.{◌≡◌, drop, map}
use Rattle.std.specs.List.{list_any}
use Rattle.wesl_validate_calls.specs.Ends.{is_open}
use Rattle.wesl_validate_calls.specs.Tables.{shape_at}
use Rattle.wesl_validate_calls.specs.Views.{shape_view}
use Rattle.wesl_validate_calls.proofs.ends.one_opens.Given as goal

abbrev pub invariant-loop-declaration : goal.invariant-loop-declaration
invariant-loop-declaration l = list_any (λ j. is_open (shape_at (map shape_view l.shapes.items) j)) (drop l.declaration-index l.declarers.items) ≡ list_any (λ j. is_open (shape_at (map shape_view l.shapes.items) j)) l.declarers.items
