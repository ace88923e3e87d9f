use Rattle.std.proofs.Common.{ap, ◌∙◌, ◌++◌, false, map}
use Rattle.wesl_cond_chains.specs.Lists.{elements}
use Rattle.wesl_tree_syntax.specs.Tree.{forest_of}
use Rattle.wesl_cond_alive.specs.Sound.{outline_of}
use Rattle.wesl_cond_alive.specs.Views.{outline_view}
use Rattle.wesl_cond_alive.proofs.Steps.{judged_from}
use Rattle.wesl_cond_alive.proofs.walk.Walk.judge_list.Goals as goal

pub returns : goal.returns
returns g c =
    let xs = map outline_of (elements false (forest_of (map g.T.Conditional.tree c.args.nodes.now.items))) in
    judged_from c.outline.ensures.same c.judge.ensures
    (λ k. ap (map outline_view) c.deref.ensures.value ∙ (c.outline.ensures.put (c.judge.ensures.noted k) ∙ ap (λ os. map outline_view os ++ xs) c.new-outlines.ensures.items))
