use Rattle.std.proofs.Common.{ap, ◌∙◌, ◌++◌, sym, map, true}
use Rattle.wesl_cond_chains.specs.Lists.{elements}
use Rattle.wesl_cond_chains.specs.Nodes.{optional_forest}
use Rattle.wesl_cond_alive.specs.Sound.{outline_of}
use Rattle.wesl_cond_alive.specs.Views.{outline_view}
use Rattle.wesl_cond_alive.proofs.Outlines.{outline_closing}
use Rattle.wesl_cond_alive.proofs.walk.Walk.outline_last.Goals as goal

pub returns-in-Some-clause-put : goal.returns-in-Some-clause-put
returns-in-Some-clause-put g c = λ k.
    outline_closing g.T.Conditional.tree c.args.outlines.now.items c.put.new.outlines.items c.of.result c.in-Some.node c.of.ensures (c.put.ensures.put k)
    ∙ ap (λ o. map outline_view c.args.outlines.now.items ++ map outline_of (elements true (optional_forest g.T.Conditional.tree o))) (sym c.in-Some.is)
