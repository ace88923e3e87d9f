use Rattle.std.proofs.Common.{◌≡◌, false, replicate, refl, rules}
use Rattle.wesl_scope_meanings.proofs.Reading.{shows_unread}
use Rattle.wesl_scope_meanings.proofs.whole.unread.Goals as goal

pub returns : goal.returns
returns c =
    let all : c.in_ok-vec.field-0.items ≡ replicate c.in_ok-alike.count false = search rules in
    let s = c.in_ok-alike.ensures in
    record { texts = s.texts; spelled = s.are; shows = shows_unread s.texts _ c.in_ok-alike.count s.counted all c.in_ok-new.ensures c.in_ok-with_capacity.ensures.items refl c.in_ok-with_capacity-2.ensures.items }
