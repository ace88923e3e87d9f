use Rattle.std.proofs.Common.{sym, ap, ◌∙◌}
use Rattle.wesl_cond_chains.specs.Chains.{follows_on, holds}
use Rattle.wesl_cond_chains.specs.Conditions.{first_condition}
use Rattle.wesl_cond_chains.specs.Nodes.{answers, as_element}
use Rattle.wesl_cond_chains.proofs.Taken.{node_goes, node_stays}
use Rattle.wesl_cond_chains.proofs.lists.keep.Goals as goal

pub returns-in-Some : goal.returns-in-Some
returns-in-Some g c = λ closes.
    let known = answers c.args.names.now c.args.features.now in
    node_stays known c.args.chain.now.kept c.args.chain.now.decided closes (g.T.Conditional.tree c.args.node.now) (g.T.Conditional.tree c.recast.new.self) c.follows_on-follows_on.result c.holds-holds.result c.take.new.self.kept c.take.new.self.decided c.in-Some.role
    (sym c.is_void.ensures ∙ c.if-is_void.false)
    (c.follows_on-follows_on.ensures ∙ ap (λ a. follows_on (first_condition a)) c.attributes.ensures, c.holds-holds.ensures ∙ ap (λ a. holds known (first_condition a)) c.attributes-2.ensures)
    c.in-Some.ensures.value c.in-Some.ensures.kept c.in-Some.ensures.decided c.recast.ensures

pub returns-in-None : goal.returns-in-None
returns-in-None g c = λ closes.
    let known = answers c.args.names.now c.args.features.now in
    let t = g.T.Conditional.tree c.args.node.now in
    node_goes known c.args.chain.now.kept c.args.chain.now.decided closes t (as_element closes t) c.follows_on-follows_on.result c.holds-holds.result c.take.new.self.kept c.take.new.self.decided
    (sym c.is_void.ensures ∙ c.if-is_void.false)
    (c.follows_on-follows_on.ensures ∙ ap (λ a. follows_on (first_condition a)) c.attributes.ensures, c.holds-holds.ensures ∙ ap (λ a. holds known (first_condition a)) c.attributes-2.ensures)
    c.in-None.ensures.value c.in-None.ensures.kept c.in-None.ensures.decided
