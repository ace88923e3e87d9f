use Rattle.std.proofs.Common.{sym, subst}
use Rattle.wesl_validate_rules.specs.Graphs.{graph_view}
use Rattle.wesl_validate_calls.specs.Ends.{AddsItself}
use Rattle.wesl_validate_calls.proofs.Taking.{adds_itself, adds_no_self}
use Rattle.wesl_validate_calls.proofs.ends.add_itself.Goals as goal

pub returns : goal.returns
returns c =
    let old = graph_view c.args.told.now.items in
    let new = graph_view c.add_edge.new.graph.items in
    subst (λ t. AddsItself c.args.number t old new) (sym c.if-not-is_one.false) (adds_itself c.args.number old new c.in_ok-add_edge.ensures.added)

pub returns-then-not-is_one : goal.returns-then-not-is_one
returns-then-not-is_one c =
    let old = graph_view c.args.told.now.items in
    subst (λ t. AddsItself c.args.number t old old) (sym c.if-not-is_one.true) (adds_no_self c.args.number old)
