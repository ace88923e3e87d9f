use Rattle.std.proofs.Common.{refl}
use Rattle.wesl_link_flaws.specs.Searching.{world_in}
use Rattle.wesl_link_flaws.proofs.Searching.{sound_answer}
use Rattle.wesl_link_flaws.proofs.Walking.{answer_of, answer_on, answer_ended}
use Rattle.wesl_link_flaws.proofs.search.Search.hop.Goals as goal

pub returns-in-Some-clause-on : goal.returns-in-Some-clause-on
returns-in-Some-clause-on c = answer_on (world_in c.args.given.now) c.args.look_up c.in-Some.answer (c.requires.sound.answers c.args.look_up c.in-Some.answer c.in-Some.ensures.found)

pub returns-in-Some-clause-ended : goal.returns-in-Some-clause-ended
returns-in-Some-clause-ended c = answer_ended (world_in c.args.given.now) c.args.look_up c.in-Some.answer (c.requires.sound.answers c.args.look_up c.in-Some.answer c.in-Some.ensures.found)

pub returns-clause-sound : goal.returns-clause-sound
returns-clause-sound c =
    sound_answer c.args.given.now c.args.self.now _ c.args.look_up c.hop-answer.result c.requires.sound
    (answer_of (world_in c.args.given.now) c.args.look_up c.hop-answer.result c.hop-answer.ensures.on c.hop-answer.ensures.ended) refl c.in_ok-put.ensures.puts
