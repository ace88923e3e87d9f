use Rattle.std.proofs.Common.{◌≡◌, is_some, sym, ap, ◌∙◌}
use Rattle.wesl_cond_chains.specs.Chains.{follows_on, holds}
use Rattle.wesl_cond_chains.specs.Conditions.{first_condition}
use Rattle.wesl_cond_chains.specs.Nodes.{answers}
use Rattle.wesl_cond_chains.proofs.Taken.{node_passed}
use Rattle.wesl_cond_chains.proofs.lists.stays.Goals as goal

pub returns : goal.returns
returns g c = λ closes.
    let known = answers c.args.names.now c.args.features.now in
    let d : c.is_some.result ≡ is_some c.take.result = c.is_some.ensures in
    node_passed known c.args.chain.now.kept c.args.chain.now.decided closes (g.T.Conditional.tree c.args.node.now) c.follows_on-follows_on.result c.holds-holds.result c.take.result c.take.new.self.kept c.take.new.self.decided c.is_some.result
    (sym c.is_void.ensures ∙ c.if-is_void.false)
    (c.follows_on-follows_on.ensures ∙ ap (λ a. follows_on (first_condition a)) c.attributes.ensures, c.holds-holds.ensures ∙ ap (λ a. holds known (first_condition a)) c.attributes-2.ensures)
    c.take.ensures.value c.take.ensures.kept c.take.ensures.decided d
