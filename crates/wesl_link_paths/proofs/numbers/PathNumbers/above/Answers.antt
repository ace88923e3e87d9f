use Rattle.std.proofs.Common.{◌≡◌, ◌≤◌, Some, ap, sym, ◌∙◌, arith}
use Rattle.wesl_link_paths.specs.Longer.{path_in}
use Rattle.wesl_link_paths.specs.Nodes.{above, part_in}
use Rattle.wesl_link_paths.specs.NumbersView.{parts_of, paths_of}
use Rattle.wesl_link_paths.specs.declared.node.PathNode.TheVariants.{Under}
use Rattle.wesl_link_paths.proofs.Lists.{path_held}
use Rattle.wesl_link_paths.proofs.Ways.{above_next, above_root, other_root, parent_below, path_by}
use Rattle.wesl_link_paths.proofs.numbers.PathNumbers.above.Goals as goal

pub returns-in_default : goal.returns-in_default
returns-in_default c =
    let n = c.args.self.now in
    let less : c.loop-level._level ≤ c.args.levels = omega (arith, c.loop-level-test.true, c.loop-level.auto._level-end) in
    path_held (paths_of n) c.loop-level.at c.loop-level.invariant.below
    ∙ ap Some (above_root (path_in (paths_of n) c.args.id) (path_in (paths_of n) c.loop-level.at) c.loop-level._level c.args.levels less c.loop-level.invariant.path
    (other_root (parts_of n) n.nodes.keys n.whole c.loop-level.at c.node.result c.node.ensures (λ r p m e. c.in_default.not-Under r p m e)))

pub loop-level-preserved : goal.loop-level-preserved
loop-level-preserved c =
    let n = c.args.self.now in
    let at = c.node.ensures ∙ ap Some c.in-Under.is in
    record {
      below = parent_below (parts_of n) n.nodes.keys n.whole c.loop-level.at c.in-Under.field-0 c.in-Under.parent c.in-Under.field-2 at;
      path = above_next (path_in (paths_of n) c.args.id) (path_in (paths_of n) c.in-Under.parent) (part_in (parts_of n) c.in-Under.field-2) c.loop-level._level
          (sym (path_by (parts_of n) n.nodes.keys n.whole c.loop-level.at (Under c.in-Under.field-0 c.in-Under.parent c.in-Under.field-2) at) ∙ c.loop-level.invariant.path);
    }

pub returns : goal.returns
returns c =
    let n = c.args.self.now in
    let all : c.loop-level._level ≡ c.args.levels = omega (arith, c.loop-level-test.false, c.loop-level.auto._level-end) in
    path_held (paths_of n) c.loop-level.at c.loop-level.invariant.below ∙ ap Some (c.loop-level.invariant.path ∙ ap (above (path_in (paths_of n) c.args.id)) all)
