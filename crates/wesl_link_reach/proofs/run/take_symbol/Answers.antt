use Rattle.wesl_link_reach.specs.Loading.{world_of}
use Rattle.wesl_link_reach.proofs.Following.{world_on}
use Rattle.wesl_link_reach.proofs.Turns.{asked_can, symbol_followed, symbol_unclear, clear_in, symbol_done}
use Rattle.wesl_link_reach.proofs.run.take_symbol.Goals as goal

pub asked_by_symbol-requires-clause-there : goal.asked_by_symbol-requires-clause-there
asked_by_symbol-requires-clause-there g c = c.requires.sound.at c.args.symbol c.requires.held

pub follow_all-requires-clause-followed : goal.follow_all-requires-clause-followed
follow_all-requires-clause-followed g c =
    let (t, at, is) = c.in_ok-asked.ensures in
    λ l h. symbol_followed c.args.symbol t l c.requires.sound c.requires.held at ((is l).0 (rw c.deref.ensures.value at h))

pub follow_all-requires-clause-can : goal.follow_all-requires-clause-can
follow_all-requires-clause-can g c =
    let (t, at, is) = c.in_ok-asked.ensures in
    λ l h. asked_can t _ l c.requires.sound at.0 ((is l).0 (rw c.deref.ensures.value at h))

pub returns-clause-done : goal.returns-clause-done
returns-clause-done g c =
    let (u, at2, clear) = c.in_default.ensures in
    let (t, at, is) = c.in_ok-asked.ensures in
    symbol_done (world_of c.args.request.now c.args.loaded.now) _ _ c.args.symbol t c.in_ok-asked.asked.items c.in_ok-follow_all.ensures.sound.world.one_table
    (world_on c.args.request.now _ _ c.in_ok-follow_all.ensures.grows) at
    (clear_in (world_of c.args.request.now c.args.loaded.now) c.args.symbol t u c.requires.sound.world.one_table at at2 clear) is (λ l h. c.in_ok-follow_all.ensures.answered l (rw c.deref.ensures.value h))

pub unclear_in_symbol-requires-clause-there : goal.unclear_in_symbol-requires-clause-there
unclear_in_symbol-requires-clause-there g c = c.requires.sound.at c.args.symbol c.requires.held

pub returns-in-Some-clause-refused : goal.returns-in-Some-clause-refused
returns-in-Some-clause-refused g c =
    let (t, at, unclear) = c.in-Some.ensures in symbol_unclear (g.L.Loader.refuses c.args.loader.now) c.args.symbol t c.in-Some.name c.requires.sound c.requires.held at unclear
