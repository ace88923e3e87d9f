-- A list of nodes, one node after the other.
use Rattle.std.proofs.Common.{◌≡◌, ℕ, ◌+◌, ◌<◌, List, [], ◌∷◌, length, get_or, map, drop, refl, add-one, drop-cons}
use Rattle.std.specs.Prelude.{Some, true}
use Rattle.wesl_tree_syntax.specs.Tree.{Tree, forest_of, declaration_node}
use Rattle.wesl_tree_syntax.specs.View.{global_view, placed}
use Rattle.wesl_tree_syntax.specs.declared.span.Spanned.{Spanned}
use Rattle.wesl_tree_syntax.specs.declared.declaration.GlobalDeclaration.{GlobalDeclaration}
use Rattle.wesl_scope_occurrences.specs.Occurrences.{plain}
use Rattle.wesl_scope_occurrences.specs.Walk.{Here}
use Rattle.wesl_scope_occurrences.specs.Events.{begins, Level, plain_level}
use Rattle.wesl_scope_occurrences.proofs.Telling.{Told, say, tell, told_by}

module _ {A : Type 0} (view : A → Tree) (here : Here) where
  -- what is told after these nodes
  abbrev pub all_told : Told → List A → Told
  all_told s xs = tell (plain_level here []) [] s (forest_of (map view xs))

  pub told_next : (s : Told) (xs : List A) (i : ℕ) (x : A) → i < length xs → x ≡ get_or xs i x → all_told s (drop i xs) ≡ all_told (told_by here s (view x)) (drop (i + 1) xs)
  told_next s xs i x h is = rw (drop-cons xs i x h, ← is, add-one) refl

-- the global declarations of the module, from number n on
abbrev pub globals_from : Here → ℕ → Level
globals_from here n = record { node = record (plain here) { next_declaration = Some n }; parts = []; is_global = true }

abbrev pub globals_told : Here → ℕ → Told → List (Spanned GlobalDeclaration) → Told
globals_told here n s xs = tell (globals_from here n) [] s (forest_of (map (placed global_view declaration_node) xs))

pub global_next : (here : Here) (s : Told) (xs : List (Spanned GlobalDeclaration)) (i : ℕ) (x : Spanned GlobalDeclaration) → i < length xs → x ≡ get_or xs i x
    → globals_told here i s (drop i xs) ≡ globals_told here (i + 1) (told_by (record here { declaration = Some i }) (say (begins ∷ []) s) (global_view x.node)) (drop (i + 1) xs)
global_next here s xs i x h is = rw (drop-cons xs i x h, ← is, add-one) refl
