use Rattle.std.proofs.Common.{◌∙◌, ◌++◌, ap, false, map, sym, true}
use Rattle.std.proofs.lemmas.List.{map-append}
use Rattle.wesl_cond_chains.specs.Lists.{elements}
use Rattle.wesl_cond_chains.specs.Nodes.{optional_forest}
use Rattle.wesl_tree_syntax.specs.Tree.{forest_of}
use Rattle.wesl_cond_alive.specs.Sound.{outline_of}
use Rattle.wesl_cond_positions.proofs.lists.outlines_of_both.Goals as goal

pub returns : goal.returns
returns g c =
    let nodes = elements false (forest_of (map g.T.Conditional.tree c.args.nodes.now.items)) in
    let last = elements true (optional_forest g.L.Conditional.tree c.args.last.now) in
    c.in_ok-put_last.ensures ∙ (ap (λ os. os ++ map outline_of last) c.in_ok-found.ensures ∙ sym (map-append outline_of nodes last))
