-- Entry points, one declaration after the other.
use Rattle.std.proofs.Common.{◌≡◌, ℕ, ◌+◌, ◌<◌, Bool, List, [], ◌∷◌, ◌++◌, length, get_or, map, drop, refl, sym, ap, ◌∙◌, add-one, drop-cons}
use Rattle.std.proofs.lemmas.List.{append_assoc}
use Rattle.wesl_tree_syntax.specs.Tree.{forest_of, attribute_node, declaration_node}
use Rattle.wesl_tree_syntax.specs.View.{attribute_view, global_view, placed}
use Rattle.wesl_tree_syntax.specs.declared.span.Spanned.{Spanned}
use Rattle.wesl_tree_syntax.specs.declared.attribute.Attribute.{Attribute}
use Rattle.wesl_tree_syntax.specs.declared.declaration.GlobalDeclaration.{GlobalDeclaration}
use Rattle.wesl_scope_strip.specs.Forests.{one_begins}
use Rattle.wesl_scope.specs.EntryPoints.{is_stage, entry_points_of, entry_points_in}

abbrev pub one_stage : List (Spanned Attribute) → Bool
one_stage xs = one_begins is_stage (forest_of (map (placed attribute_view attribute_node) xs))

abbrev pub points : List (Spanned GlobalDeclaration) → List ℕ
points xs = entry_points_of (forest_of (map (placed global_view declaration_node) xs))

pub point_next : (xs : List (Spanned GlobalDeclaration)) (i : ℕ) (x : Spanned GlobalDeclaration) → i < length xs → x ≡ get_or xs i x
    → points (drop i xs) ≡ entry_points_in (forest_of (global_view x.node ∷ [])) ++ points (drop (i + 1) xs)
point_next xs i x h is = rw (drop-cons xs i x h, ← is, add-one) refl

-- what one more declaration adds
pub point_added : (xs : List (Spanned GlobalDeclaration)) (i : ℕ) (x : Spanned GlobalDeclaration) (old new one : List ℕ) → i < length xs → x ≡ get_or xs i x → one ≡ entry_points_in (forest_of (global_view x.node ∷ [])) → new ≡ old ++ one
    → points xs ≡ old ++ points (drop i xs) → points xs ≡ new ++ points (drop (i + 1) xs)
point_added xs i x old new one h is at so before =
    let rest = points (drop (i + 1) xs) in
    before ∙ (ap (λ ps. old ++ ps) (point_next xs i x h is ∙ ap (λ r. r ++ rest) (sym at)) ∙ (sym (append_assoc old one rest) ∙ ap (λ l. l ++ rest) (sym so)))
