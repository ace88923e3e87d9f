use Rattle.std.proofs.Common.{ℕ, refl, arith, ap, ◌∙◌, map, drop, ◌<◌, length}
use Rattle.wesl_tree_syntax.specs.Tree.{end, directive_node}
use Rattle.wesl_tree_syntax.specs.View.{directive_view, placed}
use Rattle.wesl_cond_alive.specs.Views.{here_view, state_of}
use Rattle.wesl_cond_alive.specs.Walk.{all_choices, in_set, listed, standing}
use Rattle.wesl_cond_alive.proofs.Steps.{gone_on, judged_passed}
use Rattle.wesl_cond_alive.proofs.Nodes.{next_listed, in_leaf, stepped}
use Rattle.wesl_cond_alive.proofs.walk.Walk.directives.Goals as goal

pub loop-i-preserved : goal.loop-i-preserved
loop-i-preserved c =
    let xs = c.args.all.now.items in
    let i = c.loop-i.i in
    let x = c.index.result.now in
    let here = (in_set all_choices) in
    let hs = map here_view c.judge_list-places.result.items in
    let bound : i < length xs = omega (arith, c.loop-i-test.true, c.len-i-end.ensures, c.args.all.now.ok.0) in
    gone_on (placed directive_view directive_node) here x bound c.index.ensures c.loop-i.invariant (next_listed hs i _)
    (stepped c.directive.ensures (in_leaf here (here_view c.place.result) hs i directive_node x.span.start x.span.end (state_of c.loop-i.self) (directive_view x.node) refl (c.place.ensures ∙ ap (λ ps. standing {I = ℕ} (here_view c.in_set-here.result) (listed (drop i (map here_view ps))) end) c.deref.ensures.value ∙ ap (λ h. standing {I = ℕ} h (listed (drop i hs)) end) c.in_set-here.ensures)))

pub returns : goal.returns
returns c = judged_passed (placed directive_view directive_node) ((in_set all_choices)) c.judge_list-places.ensures c.loop-i.invariant (omega (arith, c.loop-i-test.false, c.len-i-end.ensures, c.args.all.now.ok.0)) refl
