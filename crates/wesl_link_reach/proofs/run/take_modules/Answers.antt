use Rattle.std.proofs.Common.{◌≤◌, ◌<◌, length, arith, rules}
use Rattle.wesl_link_reach.specs.Loading.{world_of}
use Rattle.wesl_link_reach.proofs.Growing.{goes_on_length}
use Rattle.wesl_link_reach.proofs.Following.{grows_itself, grows_trans, adds_itself, adds_trans}
use Rattle.wesl_link_reach.proofs.Lists.{contains_at_place}
use Rattle.wesl_link_reach.proofs.Turns.{modules_next}
use Rattle.wesl_link_reach.proofs.run.take_modules.Goals as goal

pub modules-init : goal.modules-init
modules-init g c = record {
  sound = c.requires.sound;
  grows = grows_itself c.args.loaded.now;
  within = c.requires.within;
  done = c.requires.done;
  adds = adds_itself (g.L.Loader.hands c.args.loader.now) (g.L.Loader.refuses c.args.loader.now) (g.L.Loader.ready c.args.loader.now);
}

pub modules-preserved : goal.modules-preserved
modules-preserved g c =
    let b : c.modules.place < length (world_of c.args.request.now c.modules.loaded) = search rules in
    let (t, within, at) = contains_at_place (world_of c.args.request.now c.modules.loaded) c.modules.place b in
    record {
      sound = c.in_ok-take_module.ensures.sound;
      grows = grows_trans _ _ _ c.modules.invariant.grows c.in_ok-take_module.ensures.grows;
      within = (let more : length c.modules.loaded.others.items ≤ length c.take_module.new.loaded.others.items = goes_on_length _ _ c.in_ok-take_module.ensures.grows.modules in
          let b : c.modules.place ≤ length c.modules.loaded.others.items = search rules in omega arith);
      done = modules_next c.args.request.now _ _ c.modules.place t c.in_ok-take_module.ensures.grows at c.modules.invariant.done (c.in_ok-take_module.ensures.done t at);
      adds = adds_trans c.modules.invariant.adds c.in_ok-take_module.ensures.adds;
    }
