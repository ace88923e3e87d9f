use Rattle.std.proofs.Common.{◌≡◌, drop}
use Rattle.wesl_tree_syntax.specs.View.{parameter_view}
use Rattle.wesl_tree_bounds.proofs.Below.{all_below}
use Rattle.wesl_tree_bounds.proofs.parts_bounds.parameters_are_below.Given as goal

abbrev pub invariant-loop-parameter : goal.invariant-loop-parameter
invariant-loop-parameter l =
    all_below (parameter_view) l.bound l.parameter-items ≡ all_below (parameter_view) l.bound (drop l.parameter-index l.parameter-items)
