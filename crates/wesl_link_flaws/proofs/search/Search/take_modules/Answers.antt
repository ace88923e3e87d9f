use Rattle.std.proofs.Common.{◌≡◌, ◌≤◌, ◌<◌, Some, length, slice_get, arith, rules, refl}
use Rattle.wesl_link_symbols.proofs.Lists.{read_at}
use Rattle.wesl_link_reach.proofs.Growing.{goes_on_length}
use Rattle.wesl_link_flaws.proofs.Searching.{grows_trans}
use Rattle.wesl_link_flaws.proofs.Turning.{modules_next}
use Rattle.wesl_link_flaws.proofs.search.Search.take_modules.Goals as goal

pub modules-preserved : goal.modules-preserved
modules-preserved c =
    let counted : c.len.result ≡ length c.modules.self.entered.list.items = search rules in
    let here : c.modules.place < length c.modules.self.entered.list.items = omega arith in
    let at : slice_get c.modules.self.entered.list.items c.modules.place ≡ Some c.index-path.result.now =
    read_at c.modules.self.entered.list.items c.modules.self.entered.list.items c.modules.place c.index-path.result.now refl here c.index-path.ensures in
    let more : length c.modules.self.entered.list.items ≤ length c.take_module.new.self.entered.list.items = goes_on_length _ _ c.in_ok-take_module.ensures.grows.entered in
    record {
      sound = c.in_ok-take_module.ensures.sound;
      grows = grows_trans _ _ _ c.modules.invariant.grows c.in_ok-take_module.ensures.grows;
      within = omega arith;
      done = modules_next c.args.given.now c.modules.self c.take_module.new.self c.in_ok-take_module.ensures.grows c.modules.place c.index-path.result.now at c.modules.invariant.done c.in_ok-take_module.ensures.done;
    }
