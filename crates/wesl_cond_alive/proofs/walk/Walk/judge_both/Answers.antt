use Rattle.std.proofs.Common.{ap, ◌∙◌, sym, ◌++◌, false, map, true}
use Rattle.std.proofs.lemmas.List.{map-append}
use Rattle.wesl_cond_chains.specs.Lists.{elements}
use Rattle.wesl_cond_chains.specs.Nodes.{optional_forest}
use Rattle.wesl_tree_syntax.specs.Tree.{forest_of}
use Rattle.wesl_cond_alive.specs.Sound.{outline_of}
use Rattle.wesl_cond_alive.specs.Views.{outline_view}
use Rattle.wesl_cond_alive.proofs.Steps.{judged_from, one_after}
use Rattle.wesl_cond_alive.proofs.walk.Walk.judge_both.Goals as goal

pub returns : goal.returns
returns g c =
    let nodes = elements false (forest_of (map g.T.Conditional.tree c.args.nodes.now.items)) in
    let last = elements true (optional_forest g.L.Conditional.tree c.args.last.now) in
    judged_from (one_after c.outline.ensures.same c.outline_last.ensures.same) c.judge.ensures
    (λ k.
    let m = c.judge.ensures.noted k in
    ap (map outline_view) c.deref.ensures.value
    ∙ (c.outline_last.ensures.put m
    ∙ (ap (λ os. os ++ map outline_of last) (c.outline.ensures.put (c.outline_last.ensures.same.noted m) ∙ ap (λ os. map outline_view os ++ map outline_of nodes) c.new-outlines.ensures.items)
    ∙ sym (map-append outline_of nodes last))))
