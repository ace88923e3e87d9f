use Rattle.wesl_tree_syntax.specs.View.{declarations_tree}
use Rattle.wesl_tree.specs.Translation.{unit_view}
use Rattle.wesl_cond_faults.proofs.Views.{unit_told}
use Rattle.wesl_cond_faults.proofs.whole.tell_unit.Goals as goal

pub returns : goal.returns
returns c =
    unit_told c.args.features.now (unit_view c.args.unit.now) c.names-names.result.now c.imports.result.now c.global_directives.result.now (declarations_tree c.global_declarations.result.now) c.names-names.ensures.names c.imports.ensures.imports c.global_directives.ensures.directives c.global_declarations.ensures.declarations
    c.args.told.now c.tell_list.new.told c.tell_list-2.new.told c.tell_declarations.new.told c.tell_list.ensures c.tell_list-2.ensures c.tell_declarations.ensures
