use Rattle.wesl_scope_words.specs.Finding.{first_in, groups_view}
use Rattle.wesl_scope_words.proofs.Reading.{all_met, more_met}
use Rattle.wesl_scope_words.proofs.rivals.Rivals.among.Goals as goal

pub loop-occurrence-preserved : goal.loop-occurrence-preserved
loop-occurrence-preserved c = λ b w p.
    more_met c.args.names.now c.args.all.now b w p c.loop-occurrence.occurrence-index c.occurrence-item.result (first_in (groups_view c.loop-occurrence.rivals.of.items) b w p) (first_in (groups_view c.meet.new.self.of.items) b w p) _
    c.loop-occurrence-test.true c.occurrence-item.is (c.in_ok-meet.ensures b w p) (c.loop-occurrence.invariant b w p)

pub returns : goal.returns
returns c = λ b w p. all_met c.args.names.now c.args.all.now b w p c.loop-occurrence.occurrence-index (first_in (groups_view c.loop-occurrence.rivals.of.items) b w p) _ c.loop-occurrence-test.false (c.loop-occurrence.invariant b w p)
