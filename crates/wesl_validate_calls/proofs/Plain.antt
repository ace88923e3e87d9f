-- A call of a name without a path, by its tree.
use Rattle.std.proofs.Common.{◌≡◌, ℕ, List, [], ◌∷◌, length, map, sym, ap, ◌∙◌}
use Rattle.std.specs.Prelude.{None}
use Rattle.wesl_tree_syntax.specs.Tree.{Tree, branch, call, list, type_expression, reference, trees, forest_of}
use Rattle.wesl_tree_syntax.specs.View.{call_view, argument_view, expression_tree, listed, optional, boxed_path, ident_tree}
use Rattle.wesl_tree_syntax.specs.declared.expression.FunctionCall.{FunctionCall, out-FunctionCall}
use Rattle.wesl_tree_syntax.specs.declared.expression.TypeExpression.{out-TypeExpression}
use Rattle.wesl_validate_rules.specs.Calls.{CallOf, call_by}
use Rattle.wesl_tree_syntax.proofs.Views.{view_call, view_type}
use Rattle.wesl_scope_strip.proofs.Keeping.{trees_count}

abbrev one : ℕ → ℕ → List (CallOf ℕ)
one x k = record { callee = x; arguments = k } ∷ []

pub plain : (c : FunctionCall) (k : ℕ) → (out-TypeExpression (out-FunctionCall c).ty).path ≡ None → k ≡ length (out-FunctionCall c).arguments.items
    → one (out-TypeExpression (out-FunctionCall c).ty).ident.0 k ≡ call_by (call_view c).children
plain c k none count =
    let t = (out-FunctionCall c).ty in
    let arguments : Tree = listed expression_tree list (out-FunctionCall c).arguments in
    let name : Tree = ident_tree reference (out-TypeExpression t).ident in
    let rest : Tree = optional (listed argument_view list) (out-TypeExpression t).template_args in
    let seen : call_view c ≡ branch call (branch type_expression (optional boxed_path None ∷ name ∷ rest ∷ []) ∷ arguments ∷ []) =
    view_call c ∙ (ap (λ x. branch call (x ∷ arguments ∷ [])) (view_type t) ∙ ap (λ p. branch call (branch type_expression (optional boxed_path p ∷ name ∷ rest ∷ []) ∷ arguments ∷ [])) none) in
    let whole : call_by (call_view c).children ≡ one (out-TypeExpression t).ident.0 (length (trees (forest_of (map expression_tree (out-FunctionCall c).arguments.items)))) = ap (λ x. call_by x.children) seen in
    sym (whole ∙ ap (one (out-TypeExpression t).ident.0) (trees_count expression_tree (out-FunctionCall c).arguments.items ∙ sym count))
