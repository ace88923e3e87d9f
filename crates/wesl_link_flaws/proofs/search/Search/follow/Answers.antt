use Rattle.wesl_link_reach.proofs.Following.{puts_has, puts_on}
use Rattle.wesl_link_flaws.specs.Searching.{world_in, task_in}
use Rattle.wesl_link_flaws.proofs.Asking.{followed_of}
use Rattle.wesl_link_flaws.proofs.Searching.{grows_trans, grows_symbols, tell_grows, sound_hold, sound_tell, flaw_by, reached_by, followed_found, followed_flawed}
use Rattle.wesl_link_flaws.proofs.search.Search.follow.Goals as goal

pub end_of-requires-clause-followed : goal.end_of-requires-clause-followed
end_of-requires-clause-followed c = followed_of (task_in c.args.given.now) (world_in c.args.given.now) c.args.asker c.args.start c.requires.asks

pub returns-in_ok-put-in-Found-clause-sound : goal.returns-in_ok-put-in-Found-clause-sound
returns-in_ok-put-in-Found-clause-sound c =
    sound_hold c.args.given.now c.end_of.new.self c.put.new.keys c.in-Found.symbol c.in_ok-symbol.ensures.sound c.in_ok-put-in-Found.ensures.keys c.in_ok-put-in-Found.ensures.puts
    (reached_by c.args.given.now c.args.asker c.args.start c.in-Found.symbol c.requires.asks (rw c.in-Found.is at c.in_ok-symbol.ensures.ends))

pub returns-in_ok-put-in-Found-clause-grows : goal.returns-in_ok-put-in-Found-clause-grows
returns-in_ok-put-in-Found-clause-grows c =
    grows_trans _ _ _ c.in_ok-symbol.ensures.grows (grows_symbols c.end_of.new.self c.put.new.keys (puts_on _ _ _ c.in_ok-put-in-Found.ensures.puts))

pub returns-in_ok-put-in-Found-clause-followed : goal.returns-in_ok-put-in-Found-clause-followed
returns-in_ok-put-in-Found-clause-followed c =
    followed_found c.args.given.now _ c.args.asker c.args.start c.in-Found.symbol c.requires.ready.clear (rw c.in-Found.is at c.in_ok-symbol.ensures.ends) c.in_ok-symbol.ensures.paths
    (puts_has _ _ _ c.in_ok-put-in-Found.ensures.puts)

pub returns-in_ok-put-in-Flawed-clause-sound : goal.returns-in_ok-put-in-Flawed-clause-sound
returns-in_ok-put-in-Flawed-clause-sound c =
    sound_tell c.args.given.now c.end_of.new.self c.put-in-Flawed.new.keys c.in-Flawed.flaw c.args.asker c.in-Flawed.at c.in_ok-symbol.ensures.sound c.in_ok-put-in-Flawed.ensures.keys c.in_ok-put-in-Flawed.ensures.puts
    (flaw_by c.args.given.now c.args.asker c.in-Flawed.flaw c.in-Flawed.at c.args.start c.requires.asks (rw c.in-Flawed.is at c.in_ok-symbol.ensures.ends))

pub returns-in_ok-put-in-Flawed-clause-grows : goal.returns-in_ok-put-in-Flawed-clause-grows
returns-in_ok-put-in-Flawed-clause-grows c =
    grows_trans _ _ _ c.in_ok-symbol.ensures.grows (tell_grows c.args.given.now c.end_of.new.self c.put-in-Flawed.new.keys _ c.in_ok-put-in-Flawed.ensures.puts)

pub returns-in_ok-put-in-Flawed-clause-followed : goal.returns-in_ok-put-in-Flawed-clause-followed
returns-in_ok-put-in-Flawed-clause-followed c =
    followed_flawed c.args.given.now _ c.args.asker c.args.start c.in-Flawed.flaw c.in-Flawed.at c.requires.ready.clear (rw c.in-Flawed.is at c.in_ok-symbol.ensures.ends) c.in_ok-symbol.ensures.paths
    (puts_has _ _ _ c.in_ok-put-in-Flawed.ensures.puts)
