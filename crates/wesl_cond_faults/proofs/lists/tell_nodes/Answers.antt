use Rattle.std.proofs.Common.{◌≡◌, map, arith, false, refl, subst}
use Rattle.wesl_cond_chains.specs.Lists.{elements}
use Rattle.wesl_cond_chains.specs.Nodes.{replies}
use Rattle.wesl_tree_syntax.specs.Tree.{forest_of}
use Rattle.wesl_cond_faults.proofs.Formulas.{begun_at_start, begun_next, begun_all, begun_opened}
use Rattle.wesl_cond_chains.specs.Places.{opened_through}
use Rattle.wesl_cond_faults.specs.Places.{told_of_list}
use Rattle.wesl_cond_faults.specs.Telling.{AddsFaults}
use Rattle.wesl_cond_faults.proofs.lists.tell_nodes.Goals as goal

pub loop-node-init : goal.loop-node-init
loop-node-init g c =
    let names = c.args.names.now in
    begun_at_start names (replies names c.args.features.now) g.T.Conditional.tree c.deref-node-items.result.now c.args.told.now false refl

pub loop-node-preserved : goal.loop-node-preserved
loop-node-preserved g c =
    let names = c.args.names.now in
    let l = c.loop-node in
    begun_next names (replies names c.args.features.now) g.T.Conditional.tree c.deref-node-items.result.now l.node-index c.node-item.result l.opened c.tell_node-opened.result c.args.told.now l.told c.tell_node-opened.new.told (omega arith) c.node-item.is l.invariant c.tell_node-opened.ensures.told c.tell_node-opened.ensures.opened

pub returns-clause-told : goal.returns-clause-told
returns-clause-told g c =
    let names = c.args.names.now in
    let reply = replies names c.args.features.now in
    let view = g.T.Conditional.tree in
    let l = c.loop-node in
    subst (λ xs. AddsFaults names (told_of_list reply false (elements false (forest_of (map view xs)))) c.args.told.now l.told) c.deref-node-items.ensures.value
    (begun_all names reply view c.deref-node-items.result.now l.node-index l.opened c.args.told.now l.told (omega arith) l.invariant)

pub returns-clause-opened : goal.returns-clause-opened
returns-clause-opened g c =
    let names = c.args.names.now in
    let reply = replies names c.args.features.now in
    let view = g.T.Conditional.tree in
    let l = c.loop-node in
    subst (λ xs. l.opened ≡ opened_through false (elements false (forest_of (map view xs)))) c.deref-node-items.ensures.value
    (begun_opened names reply view c.deref-node-items.result.now l.node-index l.opened c.args.told.now l.told (omega arith) l.invariant)
