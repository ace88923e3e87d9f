use Rattle.std.proofs.Common.{List, ◌++◌, map, take}
use Rattle.wesl_tree_names.specs.Path.{Text}
use Rattle.wesl_tree_syntax.specs.Tree.{TreeOf}
use Rattle.wesl_tree.specs.Translation.{unit_view}
use Rattle.wesl_link_assembly.specs.Thinning.{IsThinning}
use Rattle.wesl_link_assembly.proofs.Words.{spelled_node}
use Rattle.wesl_link_assembly.proofs.thinning.Thinning.add_all.Given as goal

abbrev pub invariant-loop-directive : goal.invariant-loop-directive
invariant-loop-directive l = (all : List (TreeOf Text)) → IsThinning all l.initial.self → IsThinning (all ++ map (spelled_node (unit_view l.unit).names) (take l.directive-index l.directive-items)) l.self
