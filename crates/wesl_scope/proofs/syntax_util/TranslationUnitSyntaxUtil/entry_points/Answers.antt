use Rattle.std.proofs.Common.{◌≡◌, ◌++◌, map, ap, sym, ◌∙◌}
use Rattle.std.specs.Option.{option_to_list}
use Rattle.std.proofs.lemmas.List.{append-nil, drop_all, map_push}
use Rattle.wesl_tree_names.specs.declared.names.Ident.{Ident}
use Rattle.wesl_tree_syntax.specs.Tree.{Tree}
use Rattle.wesl_scope.specs.EntryPoints.{entry_points_of}
use Rattle.wesl_scope.proofs.EntryPoints.{points, point_added}
use Rattle.wesl_scope.proofs.syntax_util.TranslationUnitSyntaxUtil.entry_points.Goals.{in-Some+in_ok-push, in_default}
use Rattle.wesl_scope.proofs.syntax_util.TranslationUnitSyntaxUtil.entry_points.Goals as goal

pub loop-declaration-preserved : goal.loop-declaration-preserved
loop-declaration-preserved c =
    let old = c.loop-declaration.names.items in
    let now = c.match-entry_point.names in
    let added : map (λ (i : Ident). i.0) now.items ≡ map (λ i. i.0) old ++ map (λ i. i.0) (option_to_list c.entry_point.result) = elim c.match-entry_point.branch [
      | in-Some+in_ok-push w ↦ ap (λ v. map (λ (i : Ident). i.0) v.items) w.names-is ∙ (ap (map (λ (i : Ident). i.0)) w.in_ok-push.ensures.items ∙ (map_push (λ (i : Ident). i.0) old w.in-Some.name ∙ ap (λ o. map (λ (i : Ident). i.0) old ++ map (λ i. i.0) (option_to_list o)) (sym w.in-Some.is)))
      | in_default w ↦ ap (λ v. map (λ (i : Ident). i.0) v.items) w.names-is ∙ (sym (append-nil (map (λ i. i.0) old)) ∙ ap (λ o. map (λ (i : Ident). i.0) old ++ map (λ i. i.0) (option_to_list o)) (sym w.in_default.is))
    ] in
    point_added c.deref-declaration-items.result.now c.loop-declaration.declaration-index c.declaration-item.result (map (λ i. i.0) old) (map (λ i. i.0) now.items) _ c.loop-declaration-test.true c.declaration-item.is c.entry_point.ensures added c.loop-declaration.invariant

pub returns-clause-names : goal.returns-clause-names
returns-clause-names c =
    let xs = c.deref-declaration-items.result.now in
    let found = map (λ (i : Ident). i.0) c.loop-declaration.names.items in
    sym (c.loop-declaration.invariant ∙ (ap (λ ys. found ++ points ys) (drop_all c.loop-declaration.declaration-index xs c.loop-declaration-test.false) ∙ append-nil found))
    ∙ (ap points c.deref-declaration-items.ensures.value ∙ ap (λ (t : Tree). entry_points_of t.children) c.global_declarations.ensures.declarations)
