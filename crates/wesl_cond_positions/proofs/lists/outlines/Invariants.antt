use Rattle.std.proofs.Common.{◌≡◌, ◌++◌, drop, false, map}
use Rattle.wesl_cond_chains.specs.Lists.{elements}
use Rattle.wesl_tree_syntax.specs.Tree.{forest_of}
use Rattle.wesl_cond_alive.specs.Sound.{outline_of}
use Rattle.wesl_cond_alive.specs.Views.{outline_view}
use Rattle.wesl_cond_positions.proofs.lists.outlines.Given as goal

abbrev pub invariant-loop-node : goal.invariant-loop-node
invariant-loop-node g l =
    map outline_view l.found.items ++ map outline_of (elements false (forest_of (map g.T.Conditional.tree (drop l.node-index l.node-items)))) ≡ map outline_of (elements false (forest_of (map g.T.Conditional.tree l.node-items)))
