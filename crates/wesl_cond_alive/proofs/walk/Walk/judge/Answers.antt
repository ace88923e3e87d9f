use Rattle.std.proofs.Common.{◌≡◌, ◌≤◌, ◌<◌, ◌+◌, ◌-◌, ◌∙◌, ap, take, length-drop, [], arith, drop, length, map}
use Rattle.std.proofs.lemmas.List.{drop_all}
use Rattle.wesl_cond_chains.proofs.Begun.{all_taken}
use Rattle.wesl_cond_alive.specs.Sound.{whole_after}
use Rattle.wesl_cond_alive.specs.Views.{here_view, outline_view, state_of}
use Rattle.wesl_cond_alive.specs.Walk.{set_count}
use Rattle.wesl_cond_alive.proofs.Outlines.{found_all, found_next, place_more, told_all, told_next}
use Rattle.wesl_cond_alive.proofs.walk.Walk.judge.Goals as goal

pub loop-i-preserved : goal.loop-i-preserved
loop-i-preserved c =
    let xs = c.args.nodes.now in
    let i = c.loop-i.i in
    let x = c.index-nodes-i.result in
    let after = c.whole_after-is_whole.result in
    let bound : i < length xs = omega (arith, c.loop-i-test.true) in
    let rest : take (length xs - (i + 1)) (drop (i + 1) xs) ≡ drop (i + 1) xs = all_taken (drop (i + 1) xs) (length xs - (i + 1)) (omega (arith, length-drop (i + 1) xs)) in
    let whole : after ≡ whole_after c.loop-i.is_whole (outline_view x) (map outline_view (drop (i + 1) xs)) = c.whole_after-is_whole.ensures ∙ ap (λ ys. whole_after c.loop-i.is_whole (outline_view x) (map outline_view ys)) rest in
    record {
      noted = λ k. c.loop-i.invariant.noted (c.judge_node-here.ensures.branch.noted (c.put_place.ensures.same.noted k));
      found = λ k.
          let m = c.put_place.ensures.same.noted k in
          found_next c.args.holder c.loop-i.is_whole after xs i x (state_of c.loop-i.self) (state_of c.put_place.new.self) _ bound c.index-nodes-i.is whole
          (c.put_place.ensures.same.found k ∙ c.judge_node-here.ensures.branch.found m) (c.loop-i.invariant.found (c.judge_node-here.ensures.branch.noted m));
      told = λ k.
          let m = c.put_place.ensures.same.noted k in
          place_more c.loop-i.places.items c.put_place.new.places.items c.judge_node-here.result _ _ _ (c.put_place.ensures.put k)
          (told_next c.args.holder c.loop-i.is_whole after xs i x (state_of c.loop-i.self) (state_of c.put_place.new.self) (here_view c.judge_node-here.result) bound c.index-nodes-i.is whole
          (c.put_place.ensures.same.found k ∙ c.judge_node-here.ensures.branch.found m) c.judge_node-here.ensures.place)
          (c.loop-i.invariant.told (c.judge_node-here.ensures.branch.noted m));
    }

pub returns : goal.returns
returns c =
    let xs = c.args.nodes.now in
    let i = c.loop-i.i in
    let le : length xs ≤ i = omega (arith, c.loop-i-test.false) in
    let none : map outline_view (drop i xs) ≡ [] = ap (map outline_view) (drop_all i xs le) in
    record {
      noted = λ k. c.loop-i.invariant.noted k;
      found = λ k. found_all c.args.holder c.loop-i.is_whole (map outline_view xs) (map outline_view (drop i xs)) (state_of c.loop-i.self) (state_of c.args.self.now) none (c.loop-i.invariant.found k);
      told = λ k. told_all c.args.holder c.loop-i.is_whole (set_count (state_of c.loop-i.self)) (map outline_view (drop i xs)) (map here_view c.loop-i.places.items) _ none (c.loop-i.invariant.told k);
    }
