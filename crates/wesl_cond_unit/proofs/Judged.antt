-- Faults in a unit, from the faults in its parts.
use Rattle.std.proofs.Common.{◌≡◌, List, [], ◌∷◌, Result, subst}
use Rattle.wesl_cond_chains.specs.Judging.{Checks}
use Rattle.wesl_cond_chains.specs.Nodes.{replies}
use Rattle.wesl_cond_features.specs.declared.features.Features.{Features}
use Rattle.wesl_tree_names.specs.Path.{Text}
use Rattle.wesl_tree_names.specs.declared.errors.Diagnostic.{Diagnostic}
use Rattle.wesl_tree_syntax.specs.Tree.{Tree, forest_of}
use Rattle.wesl_tree_syntax.specs.Unit.{UnitView, forest_of_unit, trees_of}

module _ {R : Type 0} (r : Result R Diagnostic) (features : Features) where
  abbrev parts_checked : List Text → Tree → Tree → Tree → Type 0
  parts_checked n i d g = Checks n (replies n features) (forest_of (i ∷ d ∷ g ∷ [])) r

  pub unit_checked : (u : UnitView) (n : List Text) (i d g : Tree) → n ≡ u.names → i ≡ u.imports → d ≡ u.directives → g ≡ u.declarations → parts_checked n i d g
      → Checks u.names (replies u.names features) (forest_of_unit (trees_of u)) r
  unit_checked u n i d g names imports directives declarations h =
      subst (λ x. parts_checked x u.imports u.directives u.declarations) names
      (subst (λ x. parts_checked n x u.directives u.declarations) imports
      (subst (λ x. parts_checked n i x u.declarations) directives
      (subst (λ x. parts_checked n i d x) declarations h)))
