use Rattle.std.proofs.Common.{◌+◌, ◌<◌, ◌≤◌, ◌∙◌, ap, map, sym, subst, arith, length}
use Rattle.std.specs.List.{swap}
use Rattle.wesl_tree_syntax.specs.Tree.{forest_of, declaration_node}
use Rattle.wesl_tree_syntax.specs.View.{global_view, placed}
use Rattle.wesl_scope.proofs.Stripping.{Compacted, not_begun, goes_over, goes_forward, all_compacted, picked_forest}
use Rattle.wesl_scope.proofs.strip.keep_marked.Goals.{then-kept-j, else-kept-j}
use Rattle.wesl_scope.proofs.strip.keep_marked.Goals as goal

pub loop-j-init : goal.loop-j-init
loop-j-init c = not_begun c.args.kept.now c.args.declarations.now.items

pub loop-j-preserved : goal.loop-j-preserved
loop-j-preserved c =
    let kept = c.args.kept.now in
    let old = c.args.declarations.now.items in
    let at = c.loop-j in
    let h : at.j < length kept = omega (arith, c.loop-j-test.true) in
    elim c.if-kept-j.branch [
      | then-kept-j w ↦
          let items = swap at.declarations.items at.next at.j in
          subst (λ xs. Compacted kept old xs c.if-kept-j.next (at.j + 1)) (sym (ap (λ v. v.items) w.declarations-is ∙ w.swap.ensures.items))
          (subst (λ n. Compacted kept old items n (at.j + 1)) (sym w.next-is) (goes_forward kept old at.declarations.items at.next at.j c.requires h w.if-kept-j.true at.invariant))
      | else-kept-j w ↦
          subst (λ v. Compacted kept old v.items c.if-kept-j.next (at.j + 1)) (sym w.declarations-is)
          (subst (λ n. Compacted kept old at.declarations.items n (at.j + 1)) (sym w.next-is) (goes_over kept old at.declarations.items at.next at.j c.requires h w.if-kept-j.false at.invariant))
    ]

pub returns : goal.returns
returns c =
    let kept = c.args.kept.now in
    let old = c.args.declarations.now.items in
    let at = c.loop-j in
    let h : length kept ≤ at.j = omega (arith, c.loop-j-test.false) in
    ap (λ xs. forest_of (map (placed global_view declaration_node) xs)) (c.truncate.ensures.items ∙ all_compacted kept old at.declarations.items at.next at.j c.requires h at.invariant)
    ∙ picked_forest (placed global_view declaration_node) kept old
