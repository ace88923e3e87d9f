use Rattle.std.proofs.Common.{◌≡◌, ◌<◌, ◌≤◌, ◌++◌, ◌∷◌, [], length, get_or, map, take, take_all, ap, sym, subst, ◌∙◌}
use Rattle.std.proofs.lemmas.List.{map_more, map_push}
use Rattle.wesl_tree_syntax.specs.Tree.{before, end}
use Rattle.wesl_tree_syntax.specs.View.{global_view}
use Rattle.wesl_tree_syntax.specs.declared.declaration.GlobalDeclaration.{GlobalDeclaration}
use Rattle.wesl_tree_syntax.specs.declared.span.Spanned.{Spanned}
use Rattle.wesl_validate_rules.specs.Calls.{shape_in}
use Rattle.wesl_validate_calls.specs.Views.{shape_view}
use Rattle.wesl_validate_calls.proofs.shape.shapes_of.Goals as goal

pub loop-declaration-preserved : goal.loop-declaration-preserved
loop-declaration-preserved c =
    let all = c.args.declarations.now.items in
    let i = c.loop-declaration.declaration-index in
    let same : c.deref-declaration-items.result.now ≡ all = c.deref-declaration-items.ensures.value in
    let inside : i < length all = subst (λ xs. i < length xs) same c.loop-declaration-test.true in
    let item = c.declaration-item.result in
    let is : item ≡ get_or all i item = c.declaration-item.is ∙ ap (λ xs. get_or xs i item) same in
    let shown = λ (d : Spanned GlobalDeclaration). shape_in (before (global_view d.node) end) in
    ap (map shape_view) c.in_ok-push.ensures.items
    ∙ (map_push shape_view c.loop-declaration.shapes.items c.shape_of.result
    ∙ (ap (λ l. l ++ shape_view c.shape_of.result ∷ []) c.loop-declaration.invariant
    ∙ (ap (λ v. map shown (take i all) ++ v ∷ []) (c.shape_of.ensures ∙ ap shown is) ∙ sym (map_more shown all i item inside))))

pub returns : goal.returns
returns c =
    let all = c.args.declarations.now.items in
    let i = c.loop-declaration.declaration-index in
    let past : length all ≤ i = subst (λ xs. length xs ≤ i) c.deref-declaration-items.ensures.value c.loop-declaration-test.false in
    c.loop-declaration.invariant ∙ ap (map (λ (d : Spanned GlobalDeclaration). shape_in (before (global_view d.node) end))) (take_all i all past)
