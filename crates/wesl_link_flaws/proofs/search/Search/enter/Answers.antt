use Rattle.wesl_link_flaws.proofs.Searching.{sound_enter}
use Rattle.wesl_link_flaws.proofs.search.Search.enter.Goals as goal

pub returns-clause-sound : goal.returns-clause-sound
returns-clause-sound c =
    sound_enter c.args.given.now c.tell_clashes_at.new.self c.put.new.keys c.args.path c.in_ok-tell_clashes_at.ensures.sound c.in_ok-put.ensures.keys c.in_ok-put.ensures.puts c.requires.entered
    c.in_ok-tell_clashes_at.ensures.told
