use Rattle.wesl_json_print_nodes.proofs.Adding.{lawful}
use Rattle.std.proofs.Common.{sym}
use Rattle.wesl_tree_syntax.specs.Tree.{member_node}
use Rattle.wesl_tree_syntax.specs.View.{member_view, placed}
use Rattle.wesl_json_form.specs.Schema.{a_member}
use Rattle.wesl_json_words.proofs.Lists.{placed-value}
use Rattle.wesl_json_print_nodes.proofs.Lists.{all_nodes_before, no_nodes_before, one_node_more}
use Rattle.wesl_json_print_nodes.proofs.declaration.print_each_member.Goals as goal

pub loop-member-init : goal.loop-member-init
loop-member-init g c =
    let l = lawful g.met.S.Sink.none g.met.S.Sink.more in
    no_nodes_before c.args.spans c.args.names.now a_member (placed member_view member_node) l c.deref-member-items.result.now c.begin_list.new.self

pub loop-member-preserved : goal.loop-member-preserved
loop-member-preserved g c =
    let l = lawful g.met.S.Sink.none g.met.S.Sink.more in
    one_node_more c.args.spans c.args.names.now a_member (placed member_view member_node) l c.deref-member-items.result.now c.loop-member.member-index c.member-item.result _ c.loop-member-test.true c.member-item.is (sym (placed-value c.args.spans c.args.names.now a_member member_view member_node c.member-item.result)) c.loop-member.invariant c.print_member.ensures

pub returns : goal.returns
returns g c =
    let l = lawful g.met.S.Sink.none g.met.S.Sink.more in
    all_nodes_before c.args.spans c.args.names.now a_member (placed member_view member_node) l c.deref-member-items.result.now c.args.members.now.items c.loop-member.member-index c.deref-member-items.ensures.value c.loop-member-test.false c.begin_list.ensures c.loop-member.invariant c.close_list.ensures
