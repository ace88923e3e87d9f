use Rattle.std.proofs.Common.{◌≡◌, map, take}
use Rattle.wesl_tree_syntax.specs.Tree.{before, end}
use Rattle.wesl_tree_syntax.specs.View.{global_view}
use Rattle.wesl_validate_rules.specs.Calls.{shape_in}
use Rattle.wesl_validate_calls.specs.Views.{shape_view}
use Rattle.wesl_validate_calls.proofs.shape.shapes_of.Given as goal

abbrev pub invariant-loop-declaration : goal.invariant-loop-declaration
invariant-loop-declaration l = map shape_view l.shapes.items ≡ map (λ d. shape_in (before (global_view d.node) end)) (take l.declaration-index l.declarations.items)
