use Rattle.std.proofs.Common.{◌∙◌, ◌++◌, ap, map, sym, true}
use Rattle.wesl_cond_chains.specs.Lists.{elements}
use Rattle.wesl_cond_chains.specs.Nodes.{optional_forest}
use Rattle.wesl_cond_alive.specs.Sound.{outline_of}
use Rattle.wesl_cond_alive.specs.Views.{outline_view}
use Rattle.wesl_cond_alive.proofs.Once.{ok_map}
use Rattle.wesl_cond_alive.proofs.Outlines.{outline_closing}
use Rattle.wesl_cond_positions.proofs.lists.put_last.Goals as goal

pub returns-in-Some : goal.returns-in-Some
returns-in-Some g c =
    ok_map c.put.result _ _ (λ u h. outline_closing g.T.Conditional.tree c.args.found.now.items c.put.new.outlines.items c.of.result c.in-Some.node c.of.ensures h
    ∙ ap (λ o. map outline_view c.args.found.now.items ++ map outline_of (elements true (optional_forest g.T.Conditional.tree o))) (sym c.in-Some.is)) c.put.ensures
