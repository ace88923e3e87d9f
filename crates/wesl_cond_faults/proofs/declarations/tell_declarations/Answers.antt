use Rattle.std.proofs.Common.{false, map}
use Rattle.wesl_cond_faults.specs.Places.{told_of_list}
use Rattle.wesl_cond_chains.specs.Lists.{elements}
use Rattle.wesl_cond_chains.specs.Nodes.{replies}
use Rattle.wesl_tree_syntax.specs.Tree.{declaration_node, forest_of}
use Rattle.wesl_tree_syntax.specs.View.{global_view, placed}
use Rattle.wesl_cond_faults.proofs.Adding.{clear_if, some_if}
use Rattle.wesl_cond_faults.proofs.Views.{declarations_refused, declarations_told}
use Rattle.wesl_cond_faults.proofs.declarations.tell_declarations.Goals as goal

pub returns-then-is_clear : goal.returns-then-is_clear
returns-then-is_clear c =
    let names = c.args.names.now in
    let reply = replies names c.args.features.now in
    let xs = c.args.declarations.now.items in
    declarations_told names reply c.args.told.now c.tell_in_declarations.new.told xs (clear_if names reply (elements false (forest_of (map (placed global_view declaration_node) xs))) c.check_list.result c.is_clear.result c.check_list.ensures c.is_clear.ensures c.if-is_clear.true) c.tell_in_declarations.ensures

pub returns-else-is_clear : goal.returns-else-is_clear
returns-else-is_clear c =
    let names = c.args.names.now in
    let reply = replies names c.args.features.now in
    let xs = c.args.declarations.now.items in
    declarations_refused names reply c.args.told.now c.tell_list.new.told xs (some_if names reply (elements false (forest_of (map (placed global_view declaration_node) xs))) c.check_list.result c.is_clear.result c.check_list.ensures c.is_clear.ensures c.if-is_clear.false) c.tell_list.ensures
