-- What is left of a unit, from what is left of its lists, and its numbers.
use Rattle.std.proofs.Common.{◌≡◌, ℕ, zero, suc, ◌≤◌, Bool, true, false, ◌&&◌, List, [], ◌∷◌, length, get_or, nat_lt, Vec, Global, refl, sym, ap, ◌∙◌, arith}
use Rattle.std.proofs.lemmas.Bool.Decides.{nat_tests}
use Rattle.wesl_cond_chains.specs.Laws.{LeftStaysWithin}
use Rattle.wesl_cond_chains.specs.Nodes.{answers}
use Rattle.wesl_cond_chains.specs.Residual.{residual_tree}
use Rattle.wesl_cond_unit.specs.Left.{left_of}
use Rattle.wesl_cond_features.specs.Features.{Replies, says, known, by_number, answer_to}
use Rattle.wesl_cond_features.specs.declared.features.Features.{Features}
use Rattle.wesl_tree_names.specs.Path.{Text}
use Rattle.wesl_tree_syntax.specs.Tree.{Tree, tree_below}
use Rattle.wesl_tree_syntax.specs.Unit.{UnitView, UnitOf, unit_below}
use Rattle.wesl_tree_syntax.specs.View.{imports_tree, directives_tree, declarations_tree}
use Rattle.wesl_tree_syntax.specs.declared.declaration.GlobalDeclaration.{GlobalDeclaration}
use Rattle.wesl_tree_syntax.specs.declared.declaration.GlobalDirective.{GlobalDirective}
use Rattle.wesl_tree_syntax.specs.declared.import.ImportStatement.{ImportStatement}
use Rattle.wesl_tree_syntax.specs.declared.span.Spanned.{Spanned}
use Rattle.wesl_tree.specs.Parts.{parts_view}
use Rattle.std.proofs.lemmas.Bool.{and_parts}

abbrev pub with_trees : List Text → UnitOf ℕ → UnitView
with_trees names t = record { names = names; imports = t.imports; directives = t.directives; declarations = t.declarations }

whole_equal : (names : List Text) (i i' d d' g g' : Tree) → i ≡ i' → d ≡ d' → g ≡ g'
    → with_trees names (record { imports = i; directives = d; declarations = g }) ≡ with_trees names (record { imports = i'; directives = d'; declarations = g' })
whole_equal names i i' d d' g g' a b c = rw (a, b, c) refl

pub parts_left : (names : List Text) (features : Features) (i i' : Vec (Spanned ImportStatement) Global) (d d' : Vec (Spanned GlobalDirective) Global) (g g' : Vec (Spanned GlobalDeclaration) Global)
    → imports_tree i' ≡ residual_tree (answers names features) (imports_tree i) → directives_tree d' ≡ residual_tree (answers names features) (directives_tree d) → declarations_tree g' ≡ residual_tree (answers names features) (declarations_tree g)
    → parts_view names i' d' g' ≡ left_of (answer_to features) (parts_view names i d g)
parts_left names features i i' d d' g g' a b c = whole_equal names _ _ _ _ _ _ a b c

-- Bounds.
past : (names : List Text) (i : ℕ) → length names ≤ i → get_or names i [] ≡ []
past [] i h = refl
past (x ∷ xs) zero h = absurd (omega arith)
past (x ∷ xs) (suc i) h = past xs i (omega arith)

not_below : (i n : ℕ) → nat_lt i n ≡ false → n ≤ i
not_below i n h = grind (arith, nat_tests)

pub left_below : LeftStaysWithin → (reply : Replies Text) (u : UnitView) → unit_below u ≡ true → unit_below (left_of reply u) ≡ true
left_below within reply u h =
    let n = length u.names in
    let k = known (by_number u.names reply) in
    let outside : (i : ℕ) → nat_lt i n ≡ false → k i ≡ k n = λ i e. ap (λ t. says (reply t)) (past u.names i (not_below i n e) ∙ sym (past u.names n (omega arith))) in
    let front = and_parts (tree_below n u.imports && tree_below n u.directives) (tree_below n u.declarations) h in
    let parts = and_parts (tree_below n u.imports) (tree_below n u.directives) front.0 in
    rw (within n k u.imports outside parts.0, within n k u.directives outside parts.1, within n k u.declarations outside front.1) refl

pub not_outside : (b : Bool) → b ≡ true → b ≡ false → ⊥
not_outside b e d = cc
