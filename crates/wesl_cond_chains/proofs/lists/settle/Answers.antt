use Rattle.std.proofs.Common.{◌++◌, map, arith}
use Rattle.wesl_cond_chains.specs.Chains.{residual_after}
use Rattle.wesl_cond_chains.specs.Lists.{element}
use Rattle.wesl_cond_chains.specs.Nodes.{answers, as_element}
use Rattle.wesl_cond_chains.proofs.InPlace.{one_stays, one_goes, all_read}
use Rattle.wesl_cond_chains.proofs.lists.settle.Goals as goal
use Rattle.wesl_cond_chains.proofs.lists.settle.Goals.{then-keep, else-keep}

pub loop-read-preserved : goal.loop-read-preserved
loop-read-preserved g c =
    let known = answers c.args.names.now c.args.features.now in
    let l = c.loop-read in
    elim c.if-keep.branch [
      | then-keep w ↦ rw (w.nodes-is, w.kept-is) (
        omega arith,
        omega arith,
        rw w.swap.ensures.items (λ closes.
            one_stays element (λ x. as_element closes (g.T.Conditional.tree x)) known (λ rest. residual_after element known c.args.chain.now.kept c.args.chain.now.decided (map (λ x. as_element closes (g.T.Conditional.tree x)) c.args.nodes.now.items ++ rest)) l.nodes.items l.kept l.read l.chain.kept l.chain.decided c.keep.new.chain.kept c.keep.new.chain.decided c.keep.result c.index_mut.result.now c.keep.new.node (omega arith) (omega arith) c.index_mut.ensures.value (l.invariant.2 closes) (c.keep.ensures closes) w.if-keep.true),
      )
      | else-keep w ↦ rw (w.nodes-is, w.kept-is) (
        omega arith,
        omega arith,
        λ closes.
            one_goes element (λ x. as_element closes (g.T.Conditional.tree x)) known (λ rest. residual_after element known c.args.chain.now.kept c.args.chain.now.decided (map (λ x. as_element closes (g.T.Conditional.tree x)) c.args.nodes.now.items ++ rest)) l.nodes.items l.kept l.read l.chain.kept l.chain.decided c.keep.new.chain.kept c.keep.new.chain.decided c.keep.result c.index_mut.result.now c.keep.new.node (omega arith) (omega arith) c.index_mut.ensures.value (l.invariant.2 closes) (c.keep.ensures closes) w.if-keep.false,
      )
    ]

pub returns : goal.returns
returns g c = λ closes rest.
    let known = answers c.args.names.now c.args.features.now in
    let l = c.loop-read in
    all_read element (λ x. as_element closes (g.T.Conditional.tree x)) known (λ rest. residual_after element known c.args.chain.now.kept c.args.chain.now.decided (map (λ x. as_element closes (g.T.Conditional.tree x)) c.args.nodes.now.items ++ rest)) l.nodes.items c.truncate.new.self.items l.kept l.read l.chain.kept l.chain.decided (omega arith) c.truncate.ensures.items (l.invariant.2 closes) rest
