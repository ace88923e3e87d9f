use Rattle.wesl_text_print.proofs.Lists.{all_commas_before, no_commas_before, node_slots, one_comma_more, separate_is}
use Rattle.std.proofs.Common.{ap, option_map, sym}
use Rattle.wesl_text_form.specs.Spelling.{trailing}
use Rattle.wesl_text_print.proofs.Adding.{after_blank, lawful, nothing_behind, told}
use Rattle.wesl_text_form.specs.Productions.{a_member}
use Rattle.wesl_tree_syntax.specs.Tree.{member_node}
use Rattle.wesl_tree_syntax.specs.View.{member_view, placed}
use Rattle.wesl_text_print_unit.proofs.Declarations.{member_shows}
use Rattle.wesl_text_print_unit.proofs.declaration.print_members.Goals as goal

pub loop-member-init : goal.loop-member-init
loop-member-init g c =
    let l = lawful g.met.S.TokenSink.none g.met.S.TokenSink.more in
    no_commas_before (node_slots c.args.names.now a_member (placed member_view member_node)) l c.deref-member-items.result.now c.args.out.now

pub loop-member-preserved : goal.loop-member-preserved
loop-member-preserved g c =
    let l = lawful g.met.S.TokenSink.none g.met.S.TokenSink.more in
    one_comma_more (node_slots c.args.names.now a_member (placed member_view member_node)) l c.deref-member-items.result.now c.loop-member.member-index c.member-item.result c.loop-member.is_first c.loop-member-test.true c.member-item.is c.loop-member.invariant c.print_member_comma.ensures
    (after_blank l c.line.ensures (told (sym (nothing_behind _)) c.print_member.ensures))

pub returns : goal.returns
returns g c =
    let l = lawful g.met.S.TokenSink.none g.met.S.TokenSink.more in
    told (ap (option_map trailing) (separate_is c.args.names.now a_member (placed member_view member_node) c.args.members.now.items))
    (all_commas_before (node_slots c.args.names.now a_member (placed member_view member_node)) l (member_shows c.args.names.now) c.deref-member-items.result.now c.args.members.now.items c.loop-member.member-index c.loop-member.is_first c.deref-member-items.ensures.value c.loop-member-test.false c.loop-member.invariant c.end_commas.ensures)
