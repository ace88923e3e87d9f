use Rattle.std.proofs.Common.{true≢false, sym, ◌∙◌}
use Rattle.wesl_link_reach.proofs.Growing.{goes_on_itself}
use Rattle.wesl_link_reach.proofs.Following.{world_on, grows_itself, grows_trans, grows_trodden, sound_answered, adds_itself, adds_trans, back_in, trail_start, trail_new, trail_walked, trail_more, trail_next, ring_refused, answers_on, bound_start, bound_next}
use Rattle.wesl_link_reach.proofs.Treading.{way_on}
use Rattle.wesl_link_reach.proofs.follow.follow_new.Goals as goal

pub hops-init : goal.hops-init
hops-init g c = record {
  sound = c.requires.sound;
  grows = grows_itself c.args.loaded.now;
  trail = trail_start c.args.start _ _ c.new-trail.ensures.asked c.new-trail.ensures.questions c.requires.followed;
  bound = bound_start _ _ _ (c.new-trail.ensures.bound ∙ c.len.ensures) c.new-trail.ensures.asked;
  can = c.requires.can;
  adds = adds_itself (g.L.Loader.hands c.args.loader.now) (g.L.Loader.refuses c.args.loader.now) (g.L.Loader.ready c.args.loader.now);
}

pub returns-then-has-clause-refused : goal.returns-then-has-clause-refused
returns-then-has-clause-refused g c =
    ring_refused (g.L.Loader.refuses c.hops.loader) c.hops.invariant.sound c.hops.invariant.trail (rw c.question-asked.ensures at (c.has.ensures.0 c.if-has.true))

pub tread_back-requires-clause-way : goal.tread_back-requires-clause-way
tread_back-requires-clause-way g c =
    let (k, low, at) = c.in-Some.ensures in
    way_on c.args.start c.in-Some.symbol _ _ c.hops.current _ k c.hops.invariant.trail.walk (λ b held. c.hops.invariant.bound.none b (back_in _ b held)) low (c.hops.invariant.sound.trodden k _ _ at)

pub returns-in-Some-clause-sound : goal.returns-in-Some-clause-sound
returns-in-Some-clause-sound g c =
    let (k, low, at) = c.in-Some.ensures in
    sound_answered (g.L.Loader.hands c.hops.loader) (g.L.Loader.ready c.hops.loader) c.args.request.now c.hops.loaded c.tread_back.new.loaded _ c.args.start c.in-Some.symbol c.tread_back.ensures.rest c.hops.invariant.sound
    c.in_ok-tread_back.ensures.trodden c.in_ok-tread_back.ensures.leads (c.hops.invariant.sound.trodden k _ _ at).held c.in_ok-put.ensures.puts

pub returns-in-Some-clause-grows : goal.returns-in-Some-clause-grows
returns-in-Some-clause-grows g c =
    grows_trans _ _ _ c.hops.invariant.grows (grows_trans _ _ _ (grows_trodden c.hops.loaded c.tread_back.new.loaded c.tread_back.ensures.rest c.in_ok-tread_back.ensures.more) record {
      modules = goes_on_itself _;
      symbols = goes_on_itself _;
      answers = answers_on _ _ _ _ c.in_ok-put.ensures.puts;
      steps = goes_on_itself _;
    })

pub hop-requires-clause-walked : goal.hop-requires-clause-walked
hop-requires-clause-walked g c = trail_walked c.hops.invariant.trail (λ there. true≢false (sym (c.has.ensures.1 (rw c.question-asked.ensures there)) ∙ c.if-has.false))

pub hops-preserved : goal.hops-preserved
hops-preserved g c = record {
  sound = c.in_ok-next.ensures.sound;
  grows = grows_trans _ _ _ c.hops.invariant.grows c.in_ok-next.ensures.grows;
  trail = trail_next c.in-Some-2.next _ _ (world_on c.args.request.now _ _ c.in_ok-next.ensures.grows) c.hops.invariant.trail
      (λ there. true≢false (sym (c.has.ensures.1 (rw c.question-asked.ensures there)) ∙ c.if-has.false)) (rw c.in-Some-2.is at c.in_ok-next.ensures.next) c.in_ok-push-in-Some-2.ensures.asked c.in_ok-push-in-Some-2.ensures.questions;
  bound = bound_next _ _ _ _ c.hops.current _ _ c.in_ok-next.ensures.grows.steps c.hops.invariant.bound c.in_ok-push-in-Some-2.ensures.asked c.in_ok-push-in-Some-2.ensures.lower c.in_ok-push-in-Some-2.ensures.bound;
  can = rw c.in-Some-2.is at c.in_ok-next.ensures.can;
  adds = adds_trans c.hops.invariant.adds c.in_ok-next.ensures.adds;
}

pub tread-requires-clause-walk : goal.tread-requires-clause-walk
tread-requires-clause-walk g c = (trail_more (world_on c.args.request.now _ _ c.in_ok-next.ensures.grows) c.hops.invariant.trail).walk

pub tread-requires-clause-fresh : goal.tread-requires-clause-fresh
tread-requires-clause-fresh g c = trail_new c.hops.invariant.trail (λ there. true≢false (sym (c.has.ensures.1 (rw c.question-asked.ensures there)) ∙ c.if-has.false))

pub returns-in-None-clause-sound : goal.returns-in-None-clause-sound
returns-in-None-clause-sound g c =
    let (finds, held) = rw c.in-None.is at c.in_ok-next.ensures.found in
    sound_answered (g.L.Loader.hands c.hop.new.loader) (g.L.Loader.ready c.hop.new.loader) c.args.request.now c.hop.new.loaded c.tread.new.loaded _ c.args.start _ c.tread.ensures.rest c.in_ok-next.ensures.sound
    c.in_ok-tread-in-None.ensures.trodden c.in_ok-tread-in-None.ensures.leads held (rw c.question-asked.ensures at c.in_ok-put-in-None.ensures.puts)

pub returns-in-None-clause-grows : goal.returns-in-None-clause-grows
returns-in-None-clause-grows g c =
    grows_trans _ _ _ c.hops.invariant.grows (grows_trans _ _ _ c.in_ok-next.ensures.grows (grows_trans _ _ _ (grows_trodden c.hop.new.loaded c.tread.new.loaded c.tread.ensures.rest c.in_ok-tread-in-None.ensures.more) record {
      modules = goes_on_itself _;
      symbols = goes_on_itself _;
      answers = answers_on _ _ _ _ c.in_ok-put-in-None.ensures.puts;
      steps = goes_on_itself _;
    }))
