use Rattle.std.proofs.Common.{refl, ◌≡◌, ◌++◌, ◌∷◌, [], ap}
use Rattle.wesl_link_reach.specs.declared.request.Loaded.{Loaded}
use Rattle.wesl_link_reach.specs.Loading.{with_trodden}
use Rattle.wesl_link_reach.proofs.Growing.{goes_on_itself, goes_on_trans}
use Rattle.wesl_link_reach.proofs.Treading.{trodden_put, way_of, way_back, way_leads, puts_step_on}
use Rattle.wesl_link_reach.proofs.follow.tread_back.Goals as goal

pub back-init : goal.back-init
back-init c = record { rest = refl; trodden = c.requires.trodden; way = c.requires.way; more = goes_on_itself _ }

pub back-preserved : goal.back-preserved
back-preserved c =
    let popped : c.back.trail.items ≡ c.pop.new.self.items ++ c.in-Some.look_up ∷ [] = rw c.in-Some.is at c.pop.ensures.items in
    record {
      rest = ap (λ (s : Loaded). with_trodden s c.put.new.self) c.back.invariant.rest;
      trodden = trodden_put _ _ _ c.args.symbol c.back.invariant.trodden (way_of c.args.start c.args.symbol _ _ _ _ popped c.back.invariant.way) c.in_ok-put.ensures;
      way = way_back c.args.start c.args.symbol _ _ _ _ _ popped c.back.invariant.way c.in_ok-put.ensures;
      more = goes_on_trans _ _ _ c.back.invariant.more (puts_step_on _ _ _ _ c.in_ok-put.ensures);
    }

pub returns-clause-leads : goal.returns-clause-leads
returns-clause-leads c = way_leads c.args.start c.args.symbol _ _ c.back.invariant.way
