use Rattle.std.proofs.Common.{sym, subst}
use Rattle.wesl_scope_values.specs.Values.{IsTurned}
use Rattle.wesl_validate_rules.specs.Graphs.{graph_view}
use Rattle.wesl_validate_calls.specs.Ends.{takes_count_at}
use Rattle.wesl_validate_calls.specs.Views.{tables_view}
use Rattle.wesl_validate_calls.proofs.Ending.{taken_is, counted_is, ended_is}
use Rattle.wesl_validate_calls.proofs.ends.ends_of.Goals as goal

pub returns : goal.returns
returns c =
    let t = tables_view c.args.tables.now in
    let back = graph_view c.in_ok-back.back.items in
    let turned = c.in_ok-back.ensures.edges in
    record {
      taken = taken_is t.aliases back turned (takes_count_at t) (graph_view c.in_ok-takers.takers.items) (graph_view c.in_ok-taken.taken.items) c.in_ok-takers.ensures c.in_ok-taken.ensures;
      opened = c.in_ok-any_count.ensures;
      counts = c.in_ok-counts.ensures;
      counted = λ m. counted_is t c.requires back (graph_view c.in_ok-counters.counters.items) turned c.in_ok-counters.ensures m _ (c.in_ok-counted.ensures m);
      ended = ended_is t c.requires back (graph_view c.in_ok-enders.enders.items) c.in_ok-ended.ended.items turned c.in_ok-enders.ensures c.in_ok-ended.ensures;
    }

pub opened-requires-clause-back : goal.opened-requires-clause-back
opened-requires-clause-back c = subst (λ xs. IsTurned (tables_view c.args.tables.now).aliases (graph_view xs)) (sym c.deref.ensures.value) c.in_ok-back.ensures.edges
