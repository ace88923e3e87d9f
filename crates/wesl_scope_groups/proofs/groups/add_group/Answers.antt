use Rattle.std.proofs.Common.{◌≡◌, ◌∙◌, ap}
use Rattle.wesl_scope_graph.specs.Graphs.{graph_view}
use Rattle.wesl_scope_values.specs.Walks.{cleared}
use Rattle.wesl_scope_groups.proofs.Grouped.{step}
use Rattle.wesl_scope_groups.proofs.groups.add_group.Goals as goal

pub returns : goal.returns
returns c =
    let leading = c.in_ok-leading.leading.items in
    let members = c.in_ok-members.members.items in
    let cut : c.clear.new.marks ≡ cleared leading c.args.outside.now = c.clear.ensures ∙ ap (λ ns. cleared ns c.args.outside.now) c.deref.ensures.value in
    let done : c.clear-2.new.marks ≡ cleared leading c.walk.new.marks = c.clear-2.ensures ∙ ap (λ ns. cleared ns c.walk.new.marks) c.deref-2.ensures.value in
    let r = step (graph_view c.args.graph.now.items) (graph_view c.args.back.now.items) c.requires.back c.requires.closed c.args.node c.requires.inside c.args.done.now c.args.outside.now c.args.groups.now.items c.requires.before c.requires.new
    c.in_ok-first.first.items c.in_ok-first.ensures c.walk.new.marks c.clear.new.marks c.walk-2.new.marks c.set_marks.new.marks c.clear-2.new.marks c.set_marks-2.new.marks leading members
    c.in_ok-leading.ensures cut c.in_ok-members.ensures c.set_marks.ensures done c.set_marks-2.ensures c.set_all_first.new.values.items c.in_ok-set_all_first.ensures in
    record { grouping = r.0; more = r.1; here = r.2 }
