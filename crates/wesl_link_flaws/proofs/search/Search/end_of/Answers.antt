use Rattle.std.proofs.Common.{◌≡◌, ◌∙◌, ap, sym, true≢false}
use Rattle.wesl_link_symbols.specs.declared.ids.PathId.{PathId}
use Rattle.wesl_tree_base.specs.declared.ids.NameId.{NameId}
use Rattle.wesl_link_symbols.proofs.Lists.{contains_nil}
use Rattle.wesl_link_reach.proofs.Following.{trail_start, trail_new, trail_next}
use Rattle.wesl_link_reach.proofs.Growing.{within_itself}
use Rattle.wesl_link_trails.specs.declared.ends.Ends.{Ends}
use Rattle.wesl_link_flaws.specs.declared.told.End.{End}
use Rattle.wesl_link_flaws.specs.Searching.{world_in}
use Rattle.wesl_link_flaws.proofs.Halting.{ends_ring, trail_ring}
use Rattle.wesl_link_flaws.proofs.Searching.{grows_ends, grows_itself, grows_trans, on_has}
use Rattle.wesl_link_flaws.proofs.Walking.{bound_longer, comes_by, trail_enters, trail_met, way_entered, way_longer}
use Rattle.wesl_link_flaws.proofs.Ways.{way_ends, way_paths}
use Rattle.wesl_link_flaws.proofs.search.Search.end_of.Goals as goal

pub hops-init : goal.hops-init
hops-init c = record {
  sound = c.requires.sound;
  grows = grows_itself _;
  trail = trail_start c.args.start _ _ c.new-trail.ensures.items c.none-asked.ensures.none c.requires.followed;
  keys = c.none-asked.ensures.keys;
  entered = λ b h. absurd (contains_nil b (rw c.new-trail.ensures.items at h));
  bound = λ b h. absurd (contains_nil b (rw c.new-trail.ensures.items at h));
}

pub enter-requires-clause-entered : goal.enter-requires-clause-entered
enter-requires-clause-entered c = trail_enters c.hops.invariant.trail

pub close-requires-clause-by : goal.close-requires-clause-by
close-requires-clause-by c =
    rw c.deref.ensures.value (comes_by _ _ c.args.start c.hops.current _ c.hops.invariant.trail c.in_ok-enter.ensures.grows c.hops.invariant.entered c.in_ok-enter.ensures.there)

pub returns-then-has-clause-grows : goal.returns-then-has-clause-grows
returns-then-has-clause-grows c = grows_trans _ _ _ c.hops.invariant.grows (grows_trans _ _ _ c.in_ok-enter.ensures.grows (grows_ends c.enter.new.self _))

pub returns-then-has-clause-ends : goal.returns-then-has-clause-ends
returns-then-has-clause-ends c =
    rw c.missing.ensures (ends_ring (world_in c.args.given.now) c.requires.ready.clear c.args.start _ c.hops.current c.hops.invariant.trail.walk
    (trail_met c.hops.invariant.trail (rw c.question-wanted.ensures at (c.has.ensures.0 c.if-has.true))))

pub returns-then-has-clause-paths : goal.returns-then-has-clause-paths
returns-then-has-clause-paths c = λ x (n, walk).
    way_entered _ _ _ c.hops.current c.in_ok-enter.ensures.grows c.hops.invariant.entered c.in_ok-enter.ensures.there x
    (trail_ring (world_in c.args.given.now) c.requires.ready.clear c.args.start _ n c.hops.current x c.hops.invariant.trail.walk
    (trail_met c.hops.invariant.trail (rw c.question-wanted.ensures at (c.has.ensures.0 c.if-has.true))) walk)

pub hops-preserved : goal.hops-preserved
hops-preserved c =
    let same : c.step.new.self.ends.asked.items ≡ c.hops.self.ends.asked.items = ap (λ (e : Ends (End PathId NameId)). e.asked.items) (c.in_ok-next.ensures.ends ∙ c.in_ok-enter.ensures.ends) in
    record {
      sound = c.in_ok-next.ensures.sound;
      grows = grows_trans _ _ _ (grows_trans _ _ _ c.hops.invariant.grows c.in_ok-enter.ensures.grows) c.in_ok-next.ensures.grows;
      trail = trail_next c.in-Ok.next _ _ (within_itself _) c.hops.invariant.trail
          (λ there. true≢false (sym (c.has.ensures.1 (rw c.question-wanted.ensures there)) ∙ c.if-has.false)) (rw c.in-Ok.is at c.in_ok-next.ensures.on) c.in_ok-push-in-Ok.ensures.items
          (rw c.question-wanted.ensures at c.in_ok-put-in-Ok.ensures.puts);
      keys = c.in_ok-put-in-Ok.ensures.keys;
      entered = way_longer _ _ _ _ c.hops.current (grows_trans _ _ _ c.in_ok-enter.ensures.grows c.in_ok-next.ensures.grows) c.hops.invariant.entered
          (on_has _ _ _ c.in_ok-next.ensures.grows.entered c.in_ok-enter.ensures.there) c.in_ok-push-in-Ok.ensures.items;
      bound = bound_longer c.hops.self.ends.asked.items c.step.new.self.ends.asked.items c.hops.trail.items _ c.hops.current c.hops.bound _ _ same c.hops.invariant.bound
          (rw c.question-wanted.ensures at c.first.ensures) c.lower-bound.ensures.first c.lower-bound.ensures.second c.in_ok-push-in-Ok.ensures.items;
    }

pub keep_way-requires-clause-by : goal.keep_way-requires-clause-by
keep_way-requires-clause-by c =
    rw c.deref-in-Err.ensures.value (comes_by _ _ c.args.start c.hops.current _ c.hops.invariant.trail (grows_trans _ _ _ c.in_ok-enter.ensures.grows c.in_ok-next.ensures.grows) c.hops.invariant.entered
    (on_has _ _ _ c.in_ok-next.ensures.grows.entered c.in_ok-enter.ensures.there))

pub keep_way-requires-clause-fresh : goal.keep_way-requires-clause-fresh
keep_way-requires-clause-fresh c = trail_new c.hops.invariant.trail (λ there. true≢false (sym (c.has.ensures.1 (rw c.question-wanted.ensures there)) ∙ c.if-has.false))

pub returns-in-Err-clause-grows : goal.returns-in-Err-clause-grows
returns-in-Err-clause-grows c =
    grows_trans _ _ _ c.hops.invariant.grows (grows_trans _ _ _ c.in_ok-enter.ensures.grows (grows_trans _ _ _ c.in_ok-next.ensures.grows (grows_ends c.step.new.self _)))

pub returns-in-Err-clause-ends : goal.returns-in-Err-clause-ends
returns-in-Err-clause-ends c =
    let same : c.step.new.self.ends.asked.items ≡ c.hops.self.ends.asked.items = ap (λ (e : Ends (End PathId NameId)). e.asked.items) (c.in_ok-next.ensures.ends ∙ c.in_ok-enter.ensures.ends) in
    way_ends (world_in c.args.given.now) c.step.new.self.entered.list.items c.step.new.self.ends.asked.items c.hops.trail.items c.args.start c.hops.current c.hops.bound c.in-Err.end c.requires.ready.clear
    c.hops.invariant.trail.walk (trail_new c.hops.invariant.trail (λ there. true≢false (sym (c.has.ensures.1 (rw c.question-wanted.ensures there)) ∙ c.if-has.false)))
    (λ b h. rw same (c.hops.invariant.bound b h)) (rw c.in-Err.is at c.in_ok-next.ensures.ended)

pub returns-in-Err-clause-paths : goal.returns-in-Err-clause-paths
returns-in-Err-clause-paths c =
    let same : c.step.new.self.ends.asked.items ≡ c.hops.self.ends.asked.items = ap (λ (e : Ends (End PathId NameId)). e.asked.items) (c.in_ok-next.ensures.ends ∙ c.in_ok-enter.ensures.ends) in
    λ x (n, walk).
    way_paths (world_in c.args.given.now) c.step.new.self.entered.list.items c.step.new.self.ends.asked.items c.hops.trail.items c.args.start c.hops.current c.hops.bound c.in-Err.end c.requires.ready.clear
    (comes_by _ _ c.args.start c.hops.current _ c.hops.invariant.trail (grows_trans _ _ _ c.in_ok-enter.ensures.grows c.in_ok-next.ensures.grows) c.hops.invariant.entered
    (on_has _ _ _ c.in_ok-next.ensures.grows.entered c.in_ok-enter.ensures.there))
    (trail_new c.hops.invariant.trail (λ there. true≢false (sym (c.has.ensures.1 (rw c.question-wanted.ensures there)) ∙ c.if-has.false)))
    (λ b h. rw same (c.hops.invariant.bound b h)) (rw c.in-Err.is at c.in_ok-next.ensures.ended) n x walk
