-- A module in which the number of each identifier is its place.
use Rattle.std.specs.Prelude.{ℕ, zero, suc, List, [], ◌∷◌, length, get_or}
use Rattle.wesl_tree_copies.specs.Renumbered.{after_tree, renumbered_tree}
use Rattle.wesl_tree_syntax.specs.Unit.{UnitOf, UnitView, numbers}

-- so many numbers from p on
abbrev pub from_on : ℕ → ℕ → List ℕ
from_on p zero = []
from_on p (suc n) = p ∷ from_on (suc p) n

module _ (u : UnitView) where
  -- the places of the identifiers, in document order: each counts those before it
  abbrev pub places : List ℕ
  places = from_on 0 (length (numbers u))

  -- the number of the identifier at a place
  abbrev pub number_at : ℕ → ℕ
  number_at p = get_or (numbers u) p 0

  -- the trees of the module, where each identifier has its place for its number
  abbrev pub placed : UnitOf ℕ
  placed = record {
    imports = renumbered_tree u.imports places;
    directives = renumbered_tree u.directives (after_tree u.imports places);
    declarations = renumbered_tree u.declarations (after_tree u.directives (after_tree u.imports places));
  }
