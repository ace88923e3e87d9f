use Rattle.wesl_text_form.specs.Productions.{a_declaration}
use Rattle.wesl_tree_syntax.specs.Tree.{declaration_node}
use Rattle.wesl_tree_syntax.specs.View.{global_view, placed}
use Rattle.wesl_text_print.proofs.Adding.{after_blank, lawful, one, then, told}
use Rattle.wesl_text_print.proofs.Lists.{all_before, node_slots, none_before, one_more}
use Rattle.wesl_text_print_statements.proofs.Rows.{all_is}
use Rattle.wesl_text_print_unit.proofs.unit.print_declarations.Goals as goal

pub loop-declaration-init : goal.loop-declaration-init
loop-declaration-init g c =
    let l = lawful g.met.S.TokenSink.none g.met.S.TokenSink.more in
    none_before (node_slots c.args.names.now a_declaration (placed global_view declaration_node)) l c.deref-declaration-items.result.now c.args.out.now

pub loop-declaration-preserved : goal.loop-declaration-preserved
loop-declaration-preserved g c =
    let l = lawful g.met.S.TokenSink.none g.met.S.TokenSink.more in
    one_more (node_slots c.args.names.now a_declaration (placed global_view declaration_node)) l c.deref-declaration-items.result.now c.loop-declaration.declaration-index c.declaration-item.result c.loop-declaration-test.true c.declaration-item.is c.loop-declaration.invariant
    (after_blank l c.begin_part.ensures.given (then l c.print_declaration.ensures (one l c.line.ensures)))

pub returns : goal.returns
returns g c =
    let l = lawful g.met.S.TokenSink.none g.met.S.TokenSink.more in
    told (all_is c.args.names.now (placed global_view declaration_node) a_declaration c.args.declarations.now.items)
    (all_before (node_slots c.args.names.now a_declaration (placed global_view declaration_node)) l c.deref-declaration-items.result.now c.args.declarations.now.items c.loop-declaration.declaration-index c.deref-declaration-items.ensures.value c.loop-declaration-test.false c.loop-declaration.invariant)
