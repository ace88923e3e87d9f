use Rattle.wesl_link_flaws.proofs.Searching.{sound_clashes, clashes_told}
use Rattle.wesl_link_flaws.proofs.search.Search.tell_clashes_at.Goals as goal

pub returns-in_ok-tell_clashes-in-Some-clause-sound : goal.returns-in_ok-tell_clashes-in-Some-clause-sound
returns-in_ok-tell_clashes-in-Some-clause-sound c =
    sound_clashes c.args.given.now c.args.self.now c.tell_clashes.new.told c.args.path c.in-Some.table.now c.requires.sound c.in_ok-tell_clashes-in-Some.ensures.keys c.in-Some.ensures.found c.requires.entered
    c.in_ok-tell_clashes-in-Some.ensures.tells

pub returns-in_ok-tell_clashes-in-Some-clause-told : goal.returns-in_ok-tell_clashes-in-Some-clause-told
returns-in_ok-tell_clashes-in-Some-clause-told c =
    clashes_told c.args.given.now _ _ c.args.path c.in-Some.table.now c.requires.ready.clear c.in-Some.ensures.found c.in_ok-tell_clashes-in-Some.ensures.tells

pub returns-in-None-clause-told : goal.returns-in-None-clause-told
returns-in-None-clause-told c = λ t at. absurd (c.in-None.ensures.none t at)
