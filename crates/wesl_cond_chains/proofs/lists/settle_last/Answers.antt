use Rattle.wesl_cond_chains.specs.Nodes.{answers, as_element}
use Rattle.wesl_cond_chains.proofs.Taken.{last_goes, last_stays}
use Rattle.wesl_cond_chains.proofs.lists.settle_last.Goals as goal

pub returns-then-not-keep : goal.returns-then-not-keep
returns-then-not-keep g c = λ closes.
    last_goes (answers c.args.names.now c.args.features.now) g.T.Conditional.tree c.args.chain.now.kept c.args.chain.now.decided closes c.args.last.now c.in-Some.node c.keep.new.chain.kept c.keep.new.chain.decided (as_element closes (g.T.Conditional.tree c.keep.new.node)) c.keep.result c.in-Some.is (c.keep.ensures closes) c.if-not-keep.true

pub returns-else-not-keep : goal.returns-else-not-keep
returns-else-not-keep g c = λ closes.
    last_stays (answers c.args.names.now c.args.features.now) g.T.Conditional.tree c.args.chain.now.kept c.args.chain.now.decided closes c.args.last.now c.in-Some.node c.keep.new.chain.kept c.keep.new.chain.decided (as_element closes (g.T.Conditional.tree c.keep.new.node)) c.keep.result c.in-Some.is (c.keep.ensures closes) c.if-not-keep.false
