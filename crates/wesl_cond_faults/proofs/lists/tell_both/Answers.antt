use Rattle.std.proofs.Common.{◌++◌, map, false, true, sym, subst}
use Rattle.wesl_cond_chains.specs.Lists.{elements}
use Rattle.wesl_cond_chains.specs.Nodes.{optional_forest, replies}
use Rattle.wesl_tree_syntax.specs.Tree.{forest_of}
use Rattle.wesl_cond_faults.proofs.Formulas.{with_last, without_last}
use Rattle.wesl_cond_faults.specs.Places.{told_of_list}
use Rattle.wesl_cond_faults.specs.Telling.{AddsFaults}
use Rattle.wesl_cond_faults.proofs.lists.tell_both.Goals as goal

pub returns-in-Some : goal.returns-in-Some
returns-in-Some g c =
    let names = c.args.names.now in
    let reply = replies names c.args.features.now in
    let view = g.T.Conditional.tree in
    let last = g.L.Conditional.tree in
    let xs = c.args.nodes.now.items in
    subst (λ o. AddsFaults names (told_of_list reply false (elements false (forest_of (map view xs)) ++ elements true (optional_forest last o))) c.args.told.now c.tell_node.new.told) (sym c.in-Some.is)
    (with_last names reply view xs (last c.in-Some.last) c.tell_nodes-opened.result c.args.told.now c.tell_nodes-opened.new.told c.tell_node.new.told c.tell_nodes-opened.ensures.told c.tell_nodes-opened.ensures.opened (c.tell_node.ensures.told true))

pub returns-in-None : goal.returns-in-None
returns-in-None g c =
    let names = c.args.names.now in
    let reply = replies names c.args.features.now in
    let view = g.T.Conditional.tree in
    let last = g.L.Conditional.tree in
    let xs = c.args.nodes.now.items in
    subst (λ o. AddsFaults names (told_of_list reply false (elements false (forest_of (map view xs)) ++ elements true (optional_forest last o))) c.args.told.now c.tell_nodes-opened.new.told) (sym c.in-None.is)
    (without_last names reply view xs c.args.told.now c.tell_nodes-opened.new.told c.tell_nodes-opened.ensures.told)
