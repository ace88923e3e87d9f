use Rattle.std.proofs.Common.{arith}
use Rattle.wesl_link_reach.proofs.Steps.{limit_refused, sound_later}
use Rattle.wesl_link_reach.proofs.load.fetch.Goals as goal

pub returns-then-len-request-clause-refused : goal.returns-then-len-request-clause-refused
returns-then-len-request-clause-refused g c =
    limit_refused (g.L.Loader.refuses c.args.loader.now) c.args.path c.requires.sound c.requires.entered c.requires.absent (let r = c.requires.sound.room in omega arith)

pub add-requires-clause-sound : goal.add-requires-clause-sound
add-requires-clause-sound g c = sound_later _ _ _ _ c.load.ensures.adds c.requires.sound

pub add-requires-clause-absent : goal.add-requires-clause-absent
add-requires-clause-absent g c = rw (c.in-Ok.ensures.path) c.requires.absent
