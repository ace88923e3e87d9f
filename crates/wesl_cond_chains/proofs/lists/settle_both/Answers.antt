use Rattle.std.proofs.Common.{map, true, false, ◌∙◌}
use Rattle.wesl_cond_chains.specs.Nodes.{answers, as_element, optional_elements}
use Rattle.wesl_cond_chains.proofs.Taken.{both_are, together}
use Rattle.wesl_cond_chains.proofs.lists.settle_both.Goals as goal

pub returns : goal.returns
returns g c =
    let known = answers c.args.names.now c.args.features.now in
    let view = g.T.Conditional.tree in
    let last = g.L.Conditional.tree in
    both_are known _ _ (map (λ x. as_element false (view x)) c.args.nodes.now.items) c.settle.new.chain.kept c.settle.new.chain.decided (map (λ x. as_element false (view x)) c.settle.new.nodes.items)
    (optional_elements true last c.args.last.now) c.settle_last.new.chain.kept c.settle_last.new.chain.decided (optional_elements true last c.settle_last.new.last) c.new-chain.ensures.kept c.new-chain.ensures.decided (c.settle.ensures false) (c.settle_last.ensures true)
    ∙ together known view last c.args.nodes.now.items c.args.last.now
