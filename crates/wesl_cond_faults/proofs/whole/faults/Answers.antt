use Rattle.wesl_cond_chains.specs.Nodes.{replies}
use Rattle.wesl_cond_features.specs.Features.{answer_to}
use Rattle.wesl_tree_syntax.specs.Unit.{forest_of_unit, trees_of}
use Rattle.wesl_tree.specs.Translation.{unit_view}
use Rattle.wesl_cond_faults.proofs.Telling.{all_told, none_told}
use Rattle.wesl_cond_faults.proofs.whole.faults.Goals as goal

pub returns-else-told-clause-told : goal.returns-else-told-clause-told
returns-else-told-clause-told c =
    let u = unit_view c.args.unit.now in
    all_told u.names (replies u.names c.args.features.now) (forest_of_unit (trees_of u)) c.new-told.result c.tell_unit.new.told (c.new-told.ensures u.names) c.tell_unit.ensures c.if-told.false

pub returns-else-told-clause-none : goal.returns-else-told-clause-none
returns-else-told-clause-none c =
    let u = unit_view c.args.unit.now in
    none_told (answer_to c.args.features.now) u c.tell_unit.new.told.diagnostics.items
    (all_told u.names (replies u.names c.args.features.now) (forest_of_unit (trees_of u)) c.new-told.result c.tell_unit.new.told (c.new-told.ensures u.names) c.tell_unit.ensures c.if-told.false)
