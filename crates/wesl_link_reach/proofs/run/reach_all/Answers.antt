use Rattle.std.proofs.Common.{refl}
use Rattle.wesl_link_reach.specs.Loading.{task_at}
use Rattle.wesl_link_reach.proofs.Steps.{sound_start}
use Rattle.wesl_link_reach.proofs.run.reach_all.Goals as goal

pub follow_kept-requires : goal.follow_kept-requires
follow_kept-requires g c = record {
  sound = sound_start (g.L.Loader.hands c.args.loader.now) (g.L.Loader.ready c.args.loader.now) c.args.request.now.root (task_at c.args.request.now) c.args.request.now.max_modules _ _ _ _ _
      c.begin-loaded.ensures.others c.begin-loaded.ensures.symbols c.begin-loaded.ensures.places c.begin-loaded.ensures.answers c.begin-loaded.ensures.steps refl c.requires.admitted c.requires.ready_paths c.requires.room;
}

pub returns-clause-kept : goal.returns-clause-kept
returns-clause-kept g c = λ n h. c.in_ok-turns.ensures.grows.answers _ (c.in_ok-follow_kept.ensures.answered n h)
