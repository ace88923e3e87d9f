use Rattle.std.proofs.Common.{map, false}
use Rattle.wesl_cond_chains.specs.Nodes.{answers, as_element}
use Rattle.wesl_cond_chains.proofs.Taken.{list_is, forest_is}
use Rattle.wesl_cond_chains.proofs.lists.settle_list.Goals as goal

pub returns : goal.returns
returns g c =
    let known = answers c.args.names.now c.args.features.now in
    let view = g.T.Conditional.tree in
    forest_is known view c.args.nodes.now.items c.settle.new.nodes.items
    (list_is known _ _ (map (λ x. as_element false (view x)) c.args.nodes.now.items) c.settle.new.chain.kept c.settle.new.chain.decided (map (λ x. as_element false (view x)) c.settle.new.nodes.items) c.new-chain.ensures.kept c.new-chain.ensures.decided (c.settle.ensures false))
