use Rattle.std.proofs.Common.{◌≡◌, Some, slice_get, refl, subst}
use Rattle.wesl_link_symbols.proofs.Lists.{read_at, one_at}
use Rattle.wesl_link_reasons.specs.declared.found.Found.{Found}
use Rattle.wesl_link_reasons.specs.Searching.{world_in, task_in, IsDone}
use Rattle.wesl_link_reasons.proofs.Passing.{way_start}
use Rattle.wesl_link_reasons.proofs.search.Search.take.Goals as goal

pub follow_all-requires-clause-ways : goal.follow_all-requires-clause-ways
follow_all-requires-clause-ways c = λ l h.
    let at : slice_get c.args.self.now.findings.nodes.items c.args.place ≡ Some c.index.result.now =
    read_at c.args.self.now.findings.nodes.items c.args.self.now.findings.nodes.items c.args.place c.index.result.now refl c.requires.within c.index.ensures in
    way_start (world_in c.args.map.now) (task_in c.args.map.now) _ c.args.place l (c.index.result.now, at, (c.in_ok-look_ups.ensures l).0 (rw c.deref.ensures.value at h))

pub take_with-requires-clause-here : goal.take_with-requires-clause-here
take_with-requires-clause-here c =
    let at : slice_get c.args.self.now.findings.nodes.items c.args.place ≡ Some c.index.result.now =
    read_at c.args.self.now.findings.nodes.items c.args.self.now.findings.nodes.items c.args.place c.index.result.now refl c.requires.within c.index.ensures in
    (c.index.result.now, c.in_ok-follow_all.ensures.grows.found.at c.args.place c.index.result.now at, refl)

pub returns-clause-done : goal.returns-clause-done
returns-clause-done c = λ f there.
    let at : slice_get c.args.self.now.findings.nodes.items c.args.place ≡ Some c.index.result.now =
    read_at c.args.self.now.findings.nodes.items c.args.self.now.findings.nodes.items c.args.place c.index.result.now refl c.requires.within c.index.ensures in
    subst (λ (x : Found). IsDone c.args.map.now c.take_with.new.self x.node) (one_at c.take_with.new.self.findings.nodes.items c.args.place c.index.result.now f (c.in_ok-take_with.ensures.grows.found.at c.args.place c.index.result.now (c.in_ok-follow_all.ensures.grows.found.at c.args.place c.index.result.now at)) there) record {
      look_ups = λ l looks. c.in_ok-take_with.ensures.grows.trail l (c.in_ok-follow_all.ensures.followed l (rw c.deref.ensures.value ((c.in_ok-look_ups.ensures l).1 looks)));
      taken = λ eager p is. c.in_ok-take_with.ensures.taken eager p is;
    }
