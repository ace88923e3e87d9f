use Rattle.wesl_link_flaws.proofs.Searching.{on_has}
use Rattle.wesl_link_flaws.proofs.Ways.{halts_within, kept_within}
use Rattle.wesl_link_flaws.specs.Searching.{world_in}
use Rattle.wesl_link_flaws.proofs.search.Search.step.Goals as goal

pub returns-in-Some-clause-ended : goal.returns-in-Some-clause-ended
returns-in-Some-clause-ended c =
    let (n, low, there) = c.in-Some.ensures in
    kept_within (world_in c.args.given.now) c.hop.new.self.entered.list.items c.hop.new.self.ends.asked.items c.args.look_up c.in-Ok.next n c.args.bound c.in-Some.end low
    (c.in_ok-next.ensures.sound.ends.kept c.in-Ok.next _ (rw c.question.ensures at there)) (rw c.in-Ok.is at c.in_ok-next.ensures.on)

pub returns-in-Err-clause-ended : goal.returns-in-Err-clause-ended
returns-in-Err-clause-ended c =
    halts_within (world_in c.args.given.now) c.hop.new.self.entered.list.items c.hop.new.self.ends.asked.items c.args.look_up c.args.bound c.in-Err.end
    (on_has _ _ _ c.in_ok-next.ensures.grows.entered c.requires.entered) (rw c.in-Err.is at c.in_ok-next.ensures.ended)
