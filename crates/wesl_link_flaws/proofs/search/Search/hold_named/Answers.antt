use Rattle.wesl_link_reach.proofs.Following.{puts_has}
use Rattle.wesl_link_flaws.proofs.Searching.{sound_hold}
use Rattle.wesl_link_flaws.proofs.Taking.{named_reached, named_held}
use Rattle.wesl_link_flaws.proofs.search.Search.hold_named.Goals as goal

pub returns-in_ok-put-in-Some-clause-sound : goal.returns-in_ok-put-in-Some-clause-sound
returns-in_ok-put-in-Some-clause-sound c =
    sound_hold c.args.given.now c.args.self.now c.put.new.keys _ c.requires.sound c.in_ok-put-in-Some.ensures.keys (rw c.path-path.ensures at c.in_ok-put-in-Some.ensures.puts)
    (named_reached c.args.given.now c.args.table.now c.in-Some.name c.requires.eager c.requires.there c.requires.entered (c.requires.declared c.in-Some.name c.in-Some.is))

pub returns-in_ok-put-in-Some-clause-held : goal.returns-in_ok-put-in-Some-clause-held
returns-in_ok-put-in-Some-clause-held c = λ n e.
    named_held _ c.args.table.now.path c.args.name c.in-Some.name n c.in-Some.is e (puts_has _ _ _ (rw c.path-path.ensures at c.in_ok-put-in-Some.ensures.puts))
