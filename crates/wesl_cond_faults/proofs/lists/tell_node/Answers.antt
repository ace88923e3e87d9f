use Rattle.std.proofs.Common.{sym, ◌∙◌}
use Rattle.wesl_cond_chains.specs.Nodes.{attributes_forest, replies}
use Rattle.wesl_cond_faults.proofs.Formulas.{node_adds, node_opened, void_adds, void_opened}
use Rattle.wesl_cond_faults.proofs.lists.tell_node.Goals as goal

pub returns-then-is_void-clause-told : goal.returns-then-is_void-clause-told
returns-then-is_void-clause-told g c = void_adds c.args.names.now (replies c.args.names.now c.args.features.now) c.args.opened (g.T.Conditional.tree c.args.node.now) c.args.told.now (sym c.is_void.ensures ∙ c.if-is_void.true)

pub returns-then-is_void-clause-opened : goal.returns-then-is_void-clause-opened
returns-then-is_void-clause-opened g c = void_opened c.args.names.now (replies c.args.names.now c.args.features.now) c.args.opened (g.T.Conditional.tree c.args.node.now) (sym c.is_void.ensures ∙ c.if-is_void.true)

pub returns-clause-told : goal.returns-clause-told
returns-clause-told g c =
    let names = c.args.names.now in
    node_adds names (replies names c.args.features.now) c.args.opened (g.T.Conditional.tree c.args.node.now) c.span.result c.place_of-span.result (attributes_forest c.attributes-attributes.result.now) c.args.told.now c.tell_place.new.told c.tell_formulas.new.told
    (sym c.is_void.ensures ∙ c.if-is_void.false) c.span.ensures c.place_of-span.ensures c.attributes-attributes.ensures (c.tell_place.ensures names) c.tell_formulas.ensures

pub returns-clause-opened : goal.returns-clause-opened
returns-clause-opened g c =
    let names = c.args.names.now in
    node_opened names (replies names c.args.features.now) c.args.opened (g.T.Conditional.tree c.args.node.now) (attributes_forest c.attributes-attributes.result.now) c.opens.result
    (sym c.is_void.ensures ∙ c.if-is_void.false) c.attributes-attributes.ensures c.opens.ensures
