use Rattle.std.proofs.Common.{ℕ, refl, arith, ap, ◌∙◌, map, drop, ◌<◌, length}
use Rattle.wesl_tree_syntax.specs.Tree.{end}
use Rattle.wesl_tree_syntax.specs.View.{parameter_view}
use Rattle.wesl_cond_alive.specs.Views.{here_view, spot_view, state_of}
use Rattle.wesl_cond_alive.specs.Walk.{listed, standing}
use Rattle.wesl_cond_alive.proofs.Steps.{gone_on, judged_passed}
use Rattle.wesl_cond_alive.proofs.Nodes.{next_listed, in_place, stepped}
use Rattle.wesl_cond_alive.proofs.walk.Walk.parameters.Goals as goal

pub loop-i-preserved : goal.loop-i-preserved
loop-i-preserved c =
    let xs = c.args.all.now.items in
    let i = c.loop-i.i in
    let x = c.index.result.now in
    let here = (spot_view c.args.here.now) in
    let hs = map here_view c.judge_list-places.result.items in
    let bound : i < length xs = omega (arith, c.loop-i-test.true, c.len-i-end.ensures, c.args.all.now.ok.0) in
    gone_on (parameter_view) here x bound c.index.ensures c.loop-i.invariant (next_listed hs i _)
    (stepped c.parameter.ensures (in_place here (here_view c.place.result) hs i (state_of c.loop-i.self) (parameter_view x) (c.place.ensures ∙ ap (λ ps. standing {I = ℕ} (here_view c.whole-whole.result) (listed (drop i (map here_view ps))) end) c.deref.ensures.value ∙ ap (λ h. standing {I = ℕ} h (listed (drop i hs)) end) c.whole-whole.ensures)))

pub returns : goal.returns
returns c = judged_passed (parameter_view) ((spot_view c.args.here.now)) c.judge_list-places.ensures c.loop-i.invariant (omega (arith, c.loop-i-test.false, c.len-i-end.ensures, c.args.all.now.ok.0)) refl
