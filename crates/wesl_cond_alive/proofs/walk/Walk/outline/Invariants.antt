use Rattle.std.proofs.Common.{◌≡◌, ◌++◌, drop, false, map}
use Rattle.wesl_cond_chains.specs.Lists.{elements}
use Rattle.wesl_tree_syntax.specs.Tree.{forest_of}
use Rattle.wesl_cond_alive.specs.Sound.{outline_of}
use Rattle.wesl_cond_alive.specs.Views.{outline_view, state_of}
use Rattle.wesl_cond_alive.proofs.walk.Walk.outline.Given as goal

abbrev pub invariant-loop-node : goal.invariant-loop-node
invariant-loop-node g l = record {
  noted : l.self.is_refused ≡ false → l.initial.self.is_refused ≡ false;
  same : l.self.is_refused ≡ false → state_of l.self ≡ state_of l.initial.self;
  put : l.self.is_refused ≡ false
      → map outline_view l.outlines.items ++ map outline_of (elements false (forest_of (map g.T.Conditional.tree (drop l.node-index l.node-items)))) ≡ map outline_view l.initial.outlines.items ++ map outline_of (elements false (forest_of (map g.T.Conditional.tree l.node-items)));
}
