use Rattle.wesl_link_reach.specs.Loading.{world_of, task_at}
use Rattle.wesl_link_reach.proofs.Steps.{sound_symbol}
use Rattle.wesl_link_reach.proofs.Following.{world_on, walked_more, walked_enters, walked_reaches, found_by, puts_has, next_can, missing_refused, private_refused, ambiguous_refused}
use Rattle.wesl_link_reach.proofs.follow.hop.Goals as goal

pub load-requires-clause-entered : goal.load-requires-clause-entered
load-requires-clause-entered g c = walked_enters c.args.look_up c.requires.walked

pub returns-in_ok-put-in-Declared-clause-sound : goal.returns-in_ok-put-in-Declared-clause-sound
returns-in_ok-put-in-Declared-clause-sound g c =
    let (t, at, d) = c.in-Declared.ensures in
    sound_symbol _ _ c.in_ok-load.ensures.sound
    (walked_reaches c.args.look_up t (walked_more (task_at c.args.request.now) c.args.look_up (world_on c.args.request.now _ _ c.in_ok-load.ensures.grows) c.requires.walked) at d)
    (t, at) c.in_ok-put-in-Declared.ensures

pub returns-in_ok-put-in-Declared-clause-found : goal.returns-in_ok-put-in-Declared-clause-found
returns-in_ok-put-in-Declared-clause-found g c =
    let (t, at, d) = c.in-Declared.ensures in
    found_by (world_of c.args.request.now c.load.new.loaded) _ c.args.look_up t at d (puts_has _ _ _ c.in_ok-put-in-Declared.ensures)

pub returns-in-Next-clause-can : goal.returns-in-Next-clause-can
returns-in-Next-clause-can g c =
    let (t, at, answer) = c.in-Next.ensures in
    next_can c.in_ok-load.ensures.sound c.args.look_up c.in-Next.next (t, at, answer)

pub returns-in-Missing-clause-refused : goal.returns-in-Missing-clause-refused
returns-in-Missing-clause-refused g c =
    let (t, at, answer) = c.in-Missing.ensures in
    missing_refused (g.L.Loader.refuses c.load.new.loader) c.args.look_up t c.in_ok-load.ensures.sound
    (walked_more (task_at c.args.request.now) c.args.look_up (world_on c.args.request.now _ _ c.in_ok-load.ensures.grows) c.requires.walked) at answer

pub returns-in-Private-clause-refused : goal.returns-in-Private-clause-refused
returns-in-Private-clause-refused g c =
    let (t, at, answer) = c.in-Private.ensures in
    private_refused (g.L.Loader.refuses c.load.new.loader) c.args.look_up t c.in_ok-load.ensures.sound
    (walked_more (task_at c.args.request.now) c.args.look_up (world_on c.args.request.now _ _ c.in_ok-load.ensures.grows) c.requires.walked) at answer

pub returns-in-Ambiguous-clause-refused : goal.returns-in-Ambiguous-clause-refused
returns-in-Ambiguous-clause-refused g c =
    let (t, at, answer) = c.in-Ambiguous.ensures in
    ambiguous_refused (g.L.Loader.refuses c.load.new.loader) c.args.look_up t c.in_ok-load.ensures.sound
    (walked_more (task_at c.args.request.now) c.args.look_up (world_on c.args.request.now _ _ c.in_ok-load.ensures.grows) c.requires.walked) at answer
