use Rattle.wesl_json_print_nodes.proofs.Adding.{lawful}
use Rattle.std.proofs.Common.{sym}
use Rattle.wesl_tree_syntax.specs.Tree.{declaration_node}
use Rattle.wesl_tree_syntax.specs.View.{global_view, placed}
use Rattle.wesl_json_form.specs.Schema.{a_declaration}
use Rattle.wesl_json_words.proofs.Lists.{placed-value}
use Rattle.wesl_json_print_nodes.proofs.Lists.{all_nodes_before, no_nodes_before, one_node_more}
use Rattle.wesl_json_print_nodes.proofs.declaration.print_each.Goals as goal

pub loop-declaration-init : goal.loop-declaration-init
loop-declaration-init g c =
    let l = lawful g.met.S.Sink.none g.met.S.Sink.more in
    no_nodes_before c.args.spans c.args.names.now a_declaration (placed global_view declaration_node) l c.deref-declaration-items.result.now c.begin_list.new.self

pub loop-declaration-preserved : goal.loop-declaration-preserved
loop-declaration-preserved g c =
    let l = lawful g.met.S.Sink.none g.met.S.Sink.more in
    one_node_more c.args.spans c.args.names.now a_declaration (placed global_view declaration_node) l c.deref-declaration-items.result.now c.loop-declaration.declaration-index c.declaration-item.result _ c.loop-declaration-test.true c.declaration-item.is (sym (placed-value c.args.spans c.args.names.now a_declaration global_view declaration_node c.declaration-item.result)) c.loop-declaration.invariant c.print_global.ensures

pub returns : goal.returns
returns g c =
    let l = lawful g.met.S.Sink.none g.met.S.Sink.more in
    all_nodes_before c.args.spans c.args.names.now a_declaration (placed global_view declaration_node) l c.deref-declaration-items.result.now c.args.declarations.now.items c.loop-declaration.declaration-index c.deref-declaration-items.ensures.value c.loop-declaration-test.false c.begin_list.ensures c.loop-declaration.invariant c.close_list.ensures
