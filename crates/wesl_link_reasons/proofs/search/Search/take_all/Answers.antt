use Rattle.std.proofs.Common.{◌≡◌, ◌≤◌, ◌<◌, ℕ, length, arith, rules, subst}
use Rattle.wesl_link_reasons.specs.Searching.{AreDone}
use Rattle.wesl_link_reasons.proofs.Adding.{stays_length}
use Rattle.wesl_link_reasons.proofs.Taking.{grows_trans, done_next}
use Rattle.wesl_link_reasons.proofs.search.Search.take_all.Goals as goal

pub turns-preserved : goal.turns-preserved
turns-preserved c =
    let counted : c.len.result ≡ length c.turns.self.findings.nodes.items = search rules in
    let here : c.turns.place < length c.turns.self.findings.nodes.items = omega arith in
    let more : length c.turns.self.findings.nodes.items ≤ length c.take.new.self.findings.nodes.items = stays_length c.in_ok-take.ensures.grows.found in
    record {
      sound = c.in_ok-take.ensures.sound;
      grows = grows_trans _ _ _ c.turns.invariant.grows c.in_ok-take.ensures.grows;
      through = c.in_ok-take.ensures.through;
      within = omega arith;
      done = done_next c.args.map.now _ _ c.turns.place c.in_ok-take.ensures.grows here c.turns.invariant.done c.in_ok-take.ensures.done;
    }

pub returns-clause-done : goal.returns-clause-done
returns-clause-done c =
    let within : c.turns.place ≤ length c.turns.self.findings.nodes.items = c.turns.invariant.within in
    let counted : c.len.result ≡ length c.turns.self.findings.nodes.items = search rules in
    let all : c.turns.place ≡ length c.turns.self.findings.nodes.items = omega arith in
    subst (λ (n : ℕ). AreDone c.args.map.now c.turns.self n) all c.turns.invariant.done
