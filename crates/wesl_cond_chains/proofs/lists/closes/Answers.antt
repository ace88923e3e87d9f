use Rattle.std.proofs.Common.{◌≡◌, cond, false, true, map, sym, subst}
use Rattle.wesl_cond_chains.specs.Judging.{closing}
use Rattle.wesl_cond_chains.specs.Nodes.{answers, optional_forest}
use Rattle.wesl_tree_syntax.specs.Tree.{end, forest_of}
use Rattle.wesl_cond_chains.proofs.Closing.{closing_is, closing_none}
use Rattle.wesl_cond_chains.proofs.lists.closes.Goals as goal

pub returns-in-Some : goal.returns-in-Some
returns-in-Some g c =
    let known = answers c.args.names.now c.args.features.now in
    let f = forest_of (map g.T.Conditional.tree c.args.nodes.now.items) in
    subst (λ o. closing known f (optional_forest g.L.Conditional.tree o) ≡ cond c.stays.result (optional_forest g.L.Conditional.tree o) end) (sym c.in-Some.is)
    (closing_is known g.T.Conditional.tree c.args.nodes.now.items (g.L.Conditional.tree c.in-Some.node) _ _ c.follow.new.chain.kept c.follow.new.chain.decided c.stays.new.chain.kept c.stays.new.chain.decided c.stays.result c.new-chain.ensures.kept c.new-chain.ensures.decided (c.follow.ensures false) (c.stays.ensures true))

pub returns-in-None : goal.returns-in-None
returns-in-None g c =
    let known = answers c.args.names.now c.args.features.now in
    let f = forest_of (map g.T.Conditional.tree c.args.nodes.now.items) in
    subst (λ o. closing known f (optional_forest g.L.Conditional.tree o) ≡ end) (sym c.in-None.is) (closing_none known f)
