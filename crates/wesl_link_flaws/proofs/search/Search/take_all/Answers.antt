use Rattle.std.proofs.Common.{◌≡◌, ◌≤◌, ◌<◌, ℕ, Some, length, slice_get, arith, rules, refl, subst}
use Rattle.wesl_link_symbols.proofs.Lists.{read_at, at_contains}
use Rattle.wesl_link_reach.proofs.Growing.{goes_on_length}
use Rattle.wesl_link_flaws.specs.Searching.{ModulesDone}
use Rattle.wesl_link_flaws.proofs.Searching.{grows_trans}
use Rattle.wesl_link_flaws.proofs.Turning.{modules_more, symbols_more, symbols_next}
use Rattle.wesl_link_flaws.proofs.search.Search.take_all.Goals as goal

pub returns-then-turn-len-clause-modules : goal.returns-then-turn-len-clause-modules
returns-then-turn-len-clause-modules c = subst (λ (n : ℕ). ModulesDone c.args.given.now c.take_modules.new.self n) c.in_ok-place.ensures.all c.in_ok-place.ensures.done

pub returns-then-turn-len-clause-symbols : goal.returns-then-turn-len-clause-symbols
returns-then-turn-len-clause-symbols c = λ k x b at.
    let counted : c.len.result ≡ length c.take_modules.new.self.symbols.list.items = search rules in
    let turned : c.turns.turn ≤ length c.turns.self.symbols.list.items = c.turns.invariant.turned in
    let all : length c.take_modules.new.self.symbols.list.items ≤ c.turns.turn = omega arith in
    let here : k < length c.take_modules.new.self.symbols.list.items = b in
    symbols_more c.args.given.now c.turns.self c.take_modules.new.self c.in_ok-place.ensures.grows c.turns.turn turned c.turns.invariant.symbols k x (omega arith) at

pub take_at-requires-clause-taken : goal.take_at-requires-clause-taken
take_at-requires-clause-taken c =
    let counted : c.len.result ≡ length c.take_modules.new.self.symbols.list.items = search rules in
    let here : c.turns.turn < length c.take_modules.new.self.symbols.list.items = omega arith in
    let at : slice_get c.take_modules.new.self.symbols.list.items c.turns.turn ≡ Some c.index-symbol.result.now =
    read_at c.take_modules.new.self.symbols.list.items c.take_modules.new.self.symbols.list.items c.turns.turn c.index-symbol.result.now refl here c.index-symbol.ensures in
    c.in_ok-place.ensures.sound.reached c.index-symbol.result.now (at_contains _ c.turns.turn _ at)

pub turns-preserved : goal.turns-preserved
turns-preserved c =
    let counted : c.len.result ≡ length c.take_modules.new.self.symbols.list.items = search rules in
    let here : c.turns.turn < length c.take_modules.new.self.symbols.list.items = omega arith in
    let at : slice_get c.take_modules.new.self.symbols.list.items c.turns.turn ≡ Some c.index-symbol.result.now =
    read_at c.take_modules.new.self.symbols.list.items c.take_modules.new.self.symbols.list.items c.turns.turn c.index-symbol.result.now refl here c.index-symbol.ensures in
    let all : c.in_ok-place.place ≡ length c.take_modules.new.self.entered.list.items = c.in_ok-place.ensures.all in
    let more : length c.take_modules.new.self.entered.list.items ≤ length c.take_at.new.self.entered.list.items = goes_on_length _ _ c.in_ok-take_at.ensures.grows.entered in
    let more2 : length c.take_modules.new.self.symbols.list.items ≤ length c.take_at.new.self.symbols.list.items = goes_on_length _ _ c.in_ok-take_at.ensures.grows.symbols in
    record {
      sound = c.in_ok-take_at.ensures.sound;
      grows = grows_trans _ _ _ c.turns.invariant.grows (grows_trans _ _ _ c.in_ok-place.ensures.grows c.in_ok-take_at.ensures.grows);
      within = omega arith;
      modules = modules_more c.args.given.now c.take_modules.new.self c.take_at.new.self c.in_ok-take_at.ensures.grows c.in_ok-place.place (omega arith) c.in_ok-place.ensures.done;
      turned = omega arith;
      symbols = symbols_next c.args.given.now c.take_modules.new.self c.take_at.new.self c.in_ok-take_at.ensures.grows c.turns.turn c.index-symbol.result.now at
          (symbols_more c.args.given.now c.turns.self c.take_modules.new.self c.in_ok-place.ensures.grows c.turns.turn c.turns.invariant.turned c.turns.invariant.symbols) c.in_ok-take_at.ensures.done;
    }
