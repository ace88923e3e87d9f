use Rattle.std.proofs.Common.{◌≡◌, ◌++◌, [], map, sym, subst, false, true}
use Rattle.wesl_cond_chains.specs.Places.{list_places}
use Rattle.wesl_cond_chains.specs.Lists.{elements}
use Rattle.wesl_cond_chains.specs.Nodes.{optional_forest, replies}
use Rattle.wesl_cond_chains.specs.Evaluation.{Refuses}
use Rattle.wesl_tree_syntax.specs.Tree.{forest_of}
use Rattle.wesl_cond_chains.proofs.Begun.{both_told, without_last, with_last, last_told}
use Rattle.wesl_cond_chains.proofs.faults.check_both.Goals as goal

pub returns-in-Ok-check_node : goal.returns-in-Ok-check_node
returns-in-Ok-check_node g c =
    let names = c.args.names.now in
    let reply = replies names c.args.features.now in
    let view = g.T.Conditional.tree in
    let last = g.L.Conditional.tree in
    let xs = c.args.nodes.now.items in
    subst (λ o. list_places reply false (elements false (forest_of (map view xs)) ++ elements true (optional_forest last o)) ≡ []) (sym c.in-Some.is)
    (with_last reply view names xs c.in-Ok.opened c.in-Ok-check_node.field-0 (last c.in-Some.last) (c.in-Ok.ensures false) (c.in-Ok-check_node.ensures true))

pub returns-in-Err-check_node : goal.returns-in-Err-check_node
returns-in-Err-check_node g c =
    let names = c.args.names.now in
    let reply = replies names c.args.features.now in
    let view = g.T.Conditional.tree in
    let last = g.L.Conditional.tree in
    let xs = c.args.nodes.now.items in
    subst (λ o. Refuses names (list_places reply false (elements false (forest_of (map view xs)) ++ elements true (optional_forest last o))) c.in-Err-check_node.fault) (sym c.in-Some.is)
    (last_told reply view names xs c.in-Ok.opened (last c.in-Some.last) c.in-Err-check_node.fault (c.in-Ok.ensures false) (c.in-Err-check_node.ensures true))

pub returns-in-None : goal.returns-in-None
returns-in-None g c =
    let names = c.args.names.now in
    let reply = replies names c.args.features.now in
    let view = g.T.Conditional.tree in
    let last = g.L.Conditional.tree in
    let xs = c.args.nodes.now.items in
    subst (λ o. list_places reply false (elements false (forest_of (map view xs)) ++ elements true (optional_forest last o)) ≡ []) (sym c.in-None.is)
    (without_last reply view names xs c.in-Ok.opened (c.in-Ok.ensures false))

pub returns-in-Err : goal.returns-in-Err
returns-in-Err g c =
    let names = c.args.names.now in
    both_told (replies names c.args.features.now) g.T.Conditional.tree names c.args.nodes.now.items c.in-Err.fault (elements true (optional_forest g.L.Conditional.tree c.args.last.now)) (c.in-Err.ensures false)
