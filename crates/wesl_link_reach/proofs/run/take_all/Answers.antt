use Rattle.std.proofs.Common.{◌≡◌, ◌≤◌, ◌<◌, ℕ, subst, length, arith}
use Rattle.wesl_link_reach.specs.Loading.{ModulesDone, SymbolsDone, world_of}
use Rattle.wesl_link_symbols.proofs.Lists.{contains_nil}
use Rattle.wesl_link_reach.proofs.Growing.{goes_on_length, index_at}
use Rattle.wesl_link_reach.proofs.Following.{grows_itself, grows_trans, adds_itself, adds_trans}
use Rattle.wesl_link_reach.proofs.Turns.{modules_on, symbols_on, symbols_next}
use Rattle.wesl_link_reach.proofs.run.take_all.Goals as goal

pub turns-init : goal.turns-init
turns-init g c = record {
  sound = c.requires.sound;
  grows = grows_itself c.args.loaded.now;
  within = omega arith;
  done = λ t h. absurd (contains_nil t h);
  turn_within = omega arith;
  turns_done = λ x h. absurd (contains_nil x h);
  adds = adds_itself (g.L.Loader.hands c.args.loader.now) (g.L.Loader.refuses c.args.loader.now) (g.L.Loader.ready c.args.loader.now);
}

pub returns-then-turn-len-clause-modules : goal.returns-then-turn-len-clause-modules
returns-then-turn-len-clause-modules g c =
    subst (λ (n : ℕ). ModulesDone c.args.request.now c.take_modules.new.loaded n) c.in_ok-place.ensures.all c.in_ok-place.ensures.done

pub returns-then-turn-len-clause-symbols : goal.returns-then-turn-len-clause-symbols
returns-then-turn-len-clause-symbols g c =
    let more : length c.turns.loaded.symbols.keys ≤ length c.take_modules.new.loaded.symbols.keys = goes_on_length _ _ c.in_ok-place.ensures.grows.symbols in
    let counted : c.len.result ≡ length c.take_modules.new.loaded.symbols.keys = c.len.ensures.len in
    let within : c.turns.turn ≤ length c.turns.loaded.symbols.keys = c.turns.invariant.turn_within in
    let all : c.turns.turn ≡ length c.take_modules.new.loaded.symbols.keys = omega arith in
    subst (λ (n : ℕ). SymbolsDone c.args.request.now c.take_modules.new.loaded n) all
    (symbols_on c.args.request.now _ _ c.turns.turn c.turns.invariant.sound c.in_ok-place.ensures.sound c.in_ok-place.ensures.grows within c.turns.invariant.turns_done)

pub turns-preserved : goal.turns-preserved
turns-preserved g c =
    let modules : length c.take_modules.new.loaded.others.items ≤ length c.take_symbol.new.loaded.others.items = goes_on_length _ _ c.in_ok-take_symbol.ensures.grows.modules in
    let all : c.in_ok-place.place ≡ length (world_of c.args.request.now c.take_modules.new.loaded) = c.in_ok-place.ensures.all in
    let symbols : length c.take_modules.new.loaded.symbols.keys ≤ length c.take_symbol.new.loaded.symbols.keys = goes_on_length _ _ c.in_ok-take_symbol.ensures.grows.symbols in
    let counted : c.len.result ≡ length c.take_modules.new.loaded.symbols.keys = c.len.ensures.len in
    let here : c.turns.turn < length c.take_modules.new.loaded.symbols.keys = omega arith in
    let within : c.turns.turn ≤ length c.turns.loaded.symbols.keys = c.turns.invariant.turn_within in
    let done = symbols_on c.args.request.now _ _ c.turns.turn c.turns.invariant.sound c.in_ok-place.ensures.sound c.in_ok-place.ensures.grows within c.turns.invariant.turns_done in
    record {
      sound = c.in_ok-take_symbol.ensures.sound;
      grows = grows_trans _ _ _ (grows_trans _ _ _ c.turns.invariant.grows c.in_ok-place.ensures.grows) c.in_ok-take_symbol.ensures.grows;
      within = omega arith;
      done = modules_on c.args.request.now _ _ c.in_ok-place.place c.in_ok-take_symbol.ensures.grows (omega arith) c.in_ok-place.ensures.done;
      turn_within = omega arith;
      turns_done = symbols_next c.args.request.now _ _ c.turns.turn _ c.in_ok-place.ensures.sound c.in_ok-take_symbol.ensures.sound c.in_ok-take_symbol.ensures.grows
          (index_at _ _ _ _ c.as_slice.ensures.keys here) done c.in_ok-take_symbol.ensures.done;
      adds = adds_trans (adds_trans c.turns.invariant.adds c.in_ok-place.ensures.adds) c.in_ok-take_symbol.ensures.adds;
    }
