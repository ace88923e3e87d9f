use Rattle.std.proofs.Common.{get_or, refl, arith}
use Rattle.wesl_scope_occurrences.specs.Views.{occurrence_view}
use Rattle.wesl_scope_clashes.specs.Sightings.{groups_view, first_in, is_declared}
use Rattle.wesl_scope_clashes.proofs.Steps.{more_met, all_met}
use Rattle.wesl_scope_clashes.proofs.binders.Binders.of_module.Goals as goal

pub loop-i-preserved : goal.loop-i-preserved
loop-i-preserved c = λ k p x.
    more_met occurrence_view c.args.means.now c.args.all.now is_declared k p x c.loop-i.i (get_or c.args.means.now c.loop-i.i 0) c.index-all-i.result (first_in (groups_view c.loop-i.binders.of.items) k p x) (first_in (groups_view c.meet_global.new.self.of.items) k p x) _
    (omega (arith, c.requires, c.loop-i-test.true)) c.loop-i-test.true refl c.index-all-i.is (c.in_ok-meet_global.ensures k p x) (c.loop-i.invariant k p x)

pub returns : goal.returns
returns c = λ k p x. all_met occurrence_view c.args.means.now c.args.all.now is_declared k p x c.loop-i.i (first_in (groups_view c.loop-i.binders.of.items) k p x) _ (omega (arith, c.requires, c.loop-i-test.false)) c.loop-i-test.false (c.loop-i.invariant k p x)
