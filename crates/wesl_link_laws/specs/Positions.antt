-- Two ways to tell a node of a module: by its place, and by its position.
use Rattle.std.specs.Prelude.{◌≡◌, ℕ, [], ◌∷◌}
use Rattle.wesl_tree_names.specs.Path.{Text}
use Rattle.wesl_tree_syntax.specs.Unit.{UnitOf}
use Rattle.wesl_cond_chains.specs.Picked.{Choice}
use Rattle.wesl_cond_choices.specs.declared.place.Place.TheVariants.{Import, Declaration}
use Rattle.wesl_cond_choices.specs.Places.{keeps}
use Rattle.wesl_cond_alive.specs.Alive.{kept_places}
use Rattle.wesl_cond_alive.specs.Positions.{kept_in}

-- A choice of flags keeps an import statement, and a global declaration, exactly where it keeps the node at its position.
pub record PlacesArePositions (u : UnitOf Text) : Type 0 where
  pub imports : (choice : Choice Text) (j : ℕ) → keeps (kept_places u choice) (Import j) ≡ kept_in choice (0 ∷ j ∷ []) u
  pub declarations : (choice : Choice Text) (k : ℕ) → keeps (kept_places u choice) (Declaration k) ≡ kept_in choice (2 ∷ k ∷ []) u
