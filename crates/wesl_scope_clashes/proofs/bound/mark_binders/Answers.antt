use Rattle.std.proofs.Common.{arith}
use Rattle.wesl_scope_occurrences.specs.Views.{occurrence_view}
use Rattle.wesl_scope_strip.specs.Marks.{mark_at}
use Rattle.wesl_scope_strip.proofs.Marking.{marked_next, marked_all}
use Rattle.wesl_scope_numbers.specs.Test.{has_number}
use Rattle.wesl_scope_clashes.proofs.bound.mark_binders.Goals as goal

pub loop-occurrence-preserved : goal.loop-occurrence-preserved
loop-occurrence-preserved c = λ m l.
    marked_next occurrence_view (has_number m) c.args.all.now c.loop-occurrence.occurrence-index c.occurrence-item.result _ (mark_at c.loop-occurrence.marks m) _ c.loop-occurrence-test.true c.occurrence-item.is
    (c.mark_binder.ensures m (omega (arith, l, c.loop-occurrence.auto.marks))) (c.loop-occurrence.invariant m l)

pub returns : goal.returns
returns c = λ m l. marked_all occurrence_view (has_number m) c.args.all.now c.loop-occurrence.occurrence-index _ (mark_at c.loop-occurrence.marks m) c.loop-occurrence-test.false (c.loop-occurrence.invariant m l)
