-- The trees of expressions and types, by the trees of their parts.
use Rattle.std.proofs.Common.{◌≡◌, [], ◌∷◌, refl, sym, ap, ◌∙◌, subst, List, length, Bool, false, ◌&&◌, not, Global, Option, None, Some, Vec}
use Rattle.wesl_tree_syntax.specs.Tree.{absent, before, end, leaf, present, tree, branch, kind, list, reference, Tree, type_expression}
use Rattle.wesl_tree_syntax.specs.View.{argument_view, boxed_path, ident_tree, listed, optional, type_view}
use Rattle.std.specs.Vec.{with_items}
use Rattle.wesl_visit_collect.specs.Picks.{picks, seeks_types}
use Rattle.wesl_visit_rewrite.specs.Replaced.{Rule}
use Rattle.wesl_visit_collect.specs.Finished.{Finished}
use Rattle.wesl_visit_rewrite.specs.Went.{Went}
use Rattle.wesl_visit_rewrite.proofs.Labels.{words}
use Rattle.wesl_visit_rewrite.proofs.Steps.{beside, forest_by, inside, moved, taken_else, unmoved, went_list}
use Rattle.wesl_tree_syntax.specs.declared.expression.Expression.TheViews.{roll-out-TypeExpression}
use Rattle.wesl_tree_syntax.specs.declared.expression.TemplateArg.{TemplateArg}
use Rattle.wesl_tree_syntax.specs.declared.expression.TypeExpression.{TypeExpression, out-TypeExpression, roll-TypeExpression}
use Rattle.wesl_tree_syntax.proofs.Views.{view_type, view_type_of}
use Rattle.wesl_visit_collect.proofs.Parts.{path_hollow}
use Rattle.wesl_visit_collect.proofs.Variants.{type_label}

abbrev type_of : TypeExpression → Option (Vec TemplateArg Global) → Tree
type_of t o = branch type_expression (optional boxed_path (out-TypeExpression t).path ∷ ident_tree reference (out-TypeExpression t).ident ∷ optional (listed argument_view list) o ∷ [])

-- a type without arguments, and one with them
pub type_none : (k : Rule) (a : Bool) (t : TypeExpression) → (out-TypeExpression t).template_args ≡ None → Went k a (type_view t).children a (type_view (roll-TypeExpression (out-TypeExpression t))).children
type_none k a t is =
    let q : type_view t ≡ type_of t None = view_type t ∙ ap (type_of t) is in
    moved (type_view t).children (type_view (roll-TypeExpression (out-TypeExpression t))).children (ap (λ x. x.children) q) (ap (λ x. (type_view x).children) (roll-out-TypeExpression t) ∙ ap (λ x. x.children) q)
    (unmoved (type_of t None).children (path_hollow (out-TypeExpression t).path (before (ident_tree reference (out-TypeExpression t).ident) (before (leaf (kind absent)) end)) refl))

pub type_some : (k : Rule) (a b : Bool) (t : TypeExpression) (v : Vec TemplateArg Global) (lent new : List TemplateArg) → (out-TypeExpression t).template_args ≡ Some v → lent ≡ v.items → length new ≡ v.len
    → Went k a (forest_by argument_view lent) b (forest_by argument_view new)
    → Went k a (type_view t).children b (type_view (roll-TypeExpression (record { path = (out-TypeExpression t).path; ident = (out-TypeExpression t).ident; template_args = Some (with_items v new) }))).children
type_some k a b t v lent new is e h r =
    moved _ _ (ap (λ x. x.children) (view_type t ∙ ap (type_of t) is)) (ap (λ x. x.children) (view_type_of (out-TypeExpression t).path (out-TypeExpression t).ident (Some (with_items v new))))
    (beside (unmoved _ (path_hollow (out-TypeExpression t).path end refl)) (beside (unmoved (before (ident_tree reference (out-TypeExpression t).ident) end) refl) (inside (kind present) refl refl (went_list argument_view list v lent new refl refl e h r))))

pub type_after : (k : Rule) (a b c r : Bool) (s t : TypeExpression) (u : Tree) → r ≡ (seeks_types k.sought && not k.inner) → r ≡ false → Went k a (type_view s).children b (type_view t).children
    → Finished (seeks_types k.sought) k.turns b (type_view t) c u → Went k a (before (type_view s) end) c (before u end)
type_after k a b c r s t u e h w d =
    subst (λ l. Went k a (tree l (type_view s).children end) c (before u end)) (type_label t ∙ sym (type_label s)) (taken_else (seeks_types k.sought) r (type_view t).label u (ap words (type_label t)) (ap (picks k.sought) (type_label t)) e h w d)
