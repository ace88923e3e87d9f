use Rattle.std.proofs.Common.{◌∙◌, sym, subst}
use Rattle.wesl_scope_graph.specs.Graphs.{graph_view}
use Rattle.wesl_scope_values.specs.Walks.{SetsFirst}
use Rattle.wesl_validate_faults.proofs.Closing.{more, again}
use Rattle.wesl_validate_faults.proofs.closers.note_closer.Goals as goal

pub returns-then-replace_mark : goal.returns-then-replace_mark
returns-then-replace_mark c = λ nodes h. again (graph_view c.args.graph.now.items) nodes c.args.last c.args.taken.now.items c.replace_mark.new.marks.items c.args.closers.now.items c.replace_mark.ensures.marked (sym c.replace_mark.ensures.before ∙ c.if-replace_mark.true) h

pub returns : goal.returns
returns c =
    let closers = c.args.closers.now.items in
    let now = c.set_all_first.new.values.items in
    let sets = subst (λ ns. SetsFirst ns c.args.last closers now) c.in_ok-within.ensures c.in_ok-set_all_first.ensures in
    λ nodes h. more (graph_view c.args.graph.now.items) c.requires.closed c.args.groups.now.items c.requires.groups nodes c.args.last c.args.taken.now.items c.replace_mark.new.marks.items closers now c.replace_mark.ensures.marked sets h
