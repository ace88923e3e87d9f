use Rattle.std.proofs.Common.{◌≡◌, ◌≤◌, Bool, List, ◌++◌, map, take, drop, vec_len, ℕ}
use Rattle.wesl_cond_chains.specs.Chains.{residual_after}
use Rattle.wesl_cond_chains.specs.Lists.{Element, element}
use Rattle.wesl_cond_chains.specs.Nodes.{answers, as_element}
use Rattle.wesl_cond_chains.proofs.lists.settle.Given as goal

abbrev pub invariant-loop-read : goal.invariant-loop-read
invariant-loop-read g l =
    (l.kept ≤ l.read) × (vec_len l.nodes ≡ vec_len l.initial.nodes)
    × ((closes : Bool) (rest : List (Element ℕ)) → residual_after element (answers l.names l.features) l.initial.chain.kept l.initial.chain.decided (map (λ x. as_element closes (g.T.Conditional.tree x)) l.initial.nodes.items ++ rest)
    ≡ map (λ x. as_element closes (g.T.Conditional.tree x)) (take l.kept l.nodes.items) ++ residual_after element (answers l.names l.features) l.chain.kept l.chain.decided (map (λ x. as_element closes (g.T.Conditional.tree x)) (drop l.read l.nodes.items) ++ rest))
