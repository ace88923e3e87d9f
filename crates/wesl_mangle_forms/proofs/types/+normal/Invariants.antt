use Rattle.std.proofs.Common.{◌≡◌, drop, map}
use Rattle.wesl_tree_syntax.specs.Tree.{forest_of}
use Rattle.wesl_tree_syntax.specs.View.{argument_view}
use Rattle.wesl_mangle_forms.specs.TypeText.{is_normal}
use Rattle.wesl_mangle_forms.proofs.types.+normal.Given as goal

abbrev pub invariant-are_normal_arguments-loop-argument : goal.invariant-are_normal_arguments-loop-argument
invariant-are_normal_arguments-loop-argument l =
    is_normal (forest_of (map argument_view l.argument-items)) ≡ is_normal (forest_of (map argument_view (drop l.argument-index l.argument-items)))
