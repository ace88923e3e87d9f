use Rattle.std.proofs.Common.{◌≡◌, ◌∙◌, ◌+◌, ◌-◌, ◌<◌, ap, arith, drop, length, length-drop, map, suc, take}
use Rattle.wesl_cond_chains.proofs.Begun.{all_taken}
use Rattle.wesl_cond_choices.specs.Choices.{has}
use Rattle.wesl_cond_alive.specs.Sound.{whole_after}
use Rattle.wesl_cond_alive.specs.Views.{outline_view}
use Rattle.wesl_cond_alive.proofs.Turns.{verdicts}
use Rattle.wesl_cond_positions.specs.Found.{choice_in}
use Rattle.wesl_cond_positions.proofs.Numbers.{found_none, found_number, next_number, stays_at, this_number}
use Rattle.wesl_cond_positions.proofs.lookup.Lookup.numbered.Goals as goal

pub loop-i-preserved : goal.loop-i-preserved
loop-i-preserved c =
    let xs = c.args.nodes.now in
    let i = c.loop-i.i in
    let x = c.index-nodes-i.result in
    let bound : i < length xs = omega arith in
    let rest : take (length xs - (i + 1)) (drop (i + 1) xs) ≡ drop (i + 1) xs = all_taken (drop (i + 1) xs) (length xs - (i + 1)) (omega (arith, length-drop (i + 1) xs)) in
    let whole : c.whole_after-is_whole.result ≡ whole_after c.loop-i.is_whole (outline_view x) (map outline_view (drop (i + 1) xs)) =
    c.whole_after-is_whole.ensures ∙ ap (λ ys. whole_after c.loop-i.is_whole (outline_view x) (map outline_view ys)) rest in
    record {
      over = c.in_ok-narrow.ensures.over;
      kept = λ k h m e.
          c.loop-i.invariant.kept k h (suc m) (omega arith)
          ∙ next_number (choice_in c.args.self.now k) xs i m x c.loop-i.is_whole c.whole_after-is_whole.result (has c.loop-i.free k) _ bound c.index-nodes-i.is whole (c.in_ok-narrow.ensures.set k h);
    }

pub returns-then-number-nodes-clause-kept : goal.returns-then-number-nodes-clause-kept
returns-then-number-nodes-clause-kept c = found_none c.args.self.now c.none.result c.args.nodes.now c.args.number c.none.ensures (omega (arith, c.if-number-nodes.true))

pub returns-clause-kept : goal.returns-clause-kept
returns-clause-kept c =
    let look = c.args.self.now in
    let xs = c.args.nodes.now in
    let i = c.args.number in
    let x = c.index-nodes-number.result in
    let free = c.loop-i.free in
    let bound : i < length xs = omega arith in
    let last : c.loop-i.i ≡ i = omega arith in
    let rest : take (length xs - (i + 1)) (drop (i + 1) xs) ≡ drop (i + 1) xs = all_taken (drop (i + 1) xs) (length xs - (i + 1)) (omega (arith, length-drop (i + 1) xs)) in
    let whole : c.whole_after.result ≡ whole_after c.loop-i.is_whole (outline_view x) (map outline_view (drop (i + 1) xs)) =
    c.whole_after.ensures ∙ ap (λ ys. whole_after c.loop-i.is_whole (outline_view x) (map outline_view ys)) rest in
    found_number look c.node.result xs i _ c.node.ensures.over c.node.ensures.kept
    (λ k h. c.loop-i.invariant.kept k h 0 (omega arith)
    ∙ (ap (λ j. stays_at (verdicts (choice_in look k) c.loop-i.is_whole (has free k) (map outline_view (drop j xs))) 0) last
    ∙ this_number (choice_in look k) xs i x c.loop-i.is_whole c.whole_after.result (has free k) bound c.index-nodes-number.is whole))
