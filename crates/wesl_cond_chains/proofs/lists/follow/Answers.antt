use Rattle.std.proofs.Common.{◌∙◌, map, subst, arith}
use Rattle.wesl_cond_chains.specs.Lists.{still}
use Rattle.wesl_cond_chains.specs.Nodes.{answers, as_element}
use Rattle.wesl_cond_chains.specs.Following.{Ends}
use Rattle.wesl_cond_chains.proofs.Begun.{all_taken, ends_more}
use Rattle.wesl_cond_chains.proofs.lists.follow.Goals as goal

pub loop-node-preserved : goal.loop-node-preserved
loop-node-preserved g c = λ closes.
    let l = c.loop-node in
    ends_more still (answers c.args.names.now c.args.features.now) (λ x. as_element closes (g.T.Conditional.tree x)) c.deref-node-items.result.now l.node-index c.args.chain.now.kept c.args.chain.now.decided l.chain.kept l.chain.decided c.node-item.result c.stays.new.chain.kept c.stays.new.chain.decided c.stays.result (omega arith) c.node-item.is (l.invariant closes) (c.stays.ensures closes)

pub returns : goal.returns
returns g c = λ closes.
    let l = c.loop-node in
    subst (λ ys. Ends still (answers c.args.names.now c.args.features.now) c.args.chain.now.kept c.args.chain.now.decided (map (λ x. as_element closes (g.T.Conditional.tree x)) ys) l.chain.kept l.chain.decided)
    (all_taken c.deref-node-items.result.now l.node-index (omega arith) ∙ c.deref-node-items.ensures.value) (l.invariant closes)
