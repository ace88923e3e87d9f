use Rattle.wesl_link_reach.proofs.Following.{puts_has}
use Rattle.wesl_link_flaws.specs.declared.told.Flaw.TheVariants.{NoModule}
use Rattle.wesl_link_flaws.specs.Searching.{world_in, task_in}
use Rattle.wesl_link_flaws.proofs.Asking.{entered_by}
use Rattle.wesl_link_flaws.proofs.Searching.{grows_trans, sound_tell, tell_grows}
use Rattle.wesl_link_flaws.proofs.search.Search.bring.Goals as goal

pub enter-requires-clause-entered : goal.enter-requires-clause-entered
enter-requires-clause-entered c = entered_by (task_in c.args.given.now) (world_in c.args.given.now) c.args.asker c.args.path c.requires.brings

pub returns-in-Some-clause-brought : goal.returns-in-Some-clause-brought
returns-in-Some-clause-brought c = (c.in_ok-enter.ensures.there, λ none. absurd (none _ c.in-Some.ensures.found))

pub returns-in_ok-put-in-None-clause-sound : goal.returns-in_ok-put-in-None-clause-sound
returns-in_ok-put-in-None-clause-sound c =
    sound_tell c.args.given.now c.enter.new.self c.put.new.keys NoModule c.args.asker c.args.path c.in_ok-enter.ensures.sound c.in_ok-put-in-None.ensures.keys c.in_ok-put-in-None.ensures.puts
    (c.requires.brings, c.in-None.ensures.none)

pub returns-in_ok-put-in-None-clause-grows : goal.returns-in_ok-put-in-None-clause-grows
returns-in_ok-put-in-None-clause-grows c =
    grows_trans _ _ _ c.in_ok-enter.ensures.grows (tell_grows c.args.given.now c.enter.new.self c.put.new.keys _ c.in_ok-put-in-None.ensures.puts)

pub returns-in_ok-put-in-None-clause-brought : goal.returns-in_ok-put-in-None-clause-brought
returns-in_ok-put-in-None-clause-brought c = (c.in_ok-enter.ensures.there, λ none. puts_has _ _ _ c.in_ok-put-in-None.ensures.puts)
