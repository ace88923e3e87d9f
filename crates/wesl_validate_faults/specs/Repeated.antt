-- Each import and each declaration whose name is declared again, with its place (WGSL, "Declaration and Scope").
use Rattle.std.specs.Prelude.{ℕ, bytes_eq, Option, Some, None, List, [], ◌∷◌, ◌++◌, map, if◌then◌else◌}
use Rattle.wesl_tree_names.specs.Path.{Text}
use Rattle.wesl_tree_syntax.specs.Unit.{UnitView}
use Rattle.wesl_validate_rules.specs.Names.{declared, imported}
use Rattle.wesl_validate_rules.specs.Valid.{spelling}
use Rattle.wesl_validate_faults.specs.Findings.{Finding, duplicate}
use Rattle.wesl_validate_faults.specs.Placed.{number_at, placed}

-- a name that is declared again: how many identifiers of the module come before it, and before the first one of this name
pub record Repeated : Type 0 where
  pub place : ℕ
  pub first : ℕ
  pub name : Text

-- that at a place, where the name stands first at another
abbrev pub repeated_at : ℕ → ℕ → Text → Repeated
repeated_at p q n = record { place = p; first = q; name = n }

-- what is found there
abbrev pub finding_at : Repeated → Finding
finding_at r = duplicate r.name

-- the first place of a name
abbrev pub first_of : List (ℕ × Text) → Text → Option ℕ
first_of [] n = None
first_of (x ∷ xs) n = if bytes_eq n x.1 then Some x.0 else first_of xs n

-- a name that stands first at a place is declared again
abbrev pub again_by : ℕ × Text → Option ℕ → List Repeated
again_by x None = []
again_by x (Some p) = repeated_at x.0 p x.1 ∷ []

-- the names that stood so far with their first places, and one more
abbrev pub with_first : List (ℕ × Text) → ℕ × Text → Option ℕ → List (ℕ × Text)
with_first before x None = before ++ x ∷ []
with_first before x (Some p) = before

-- a name that stands after these is declared again, if it is one of them
abbrev pub again_here : List (ℕ × Text) → ℕ × Text → List Repeated
again_here before x = again_by x (first_of before x.1)

-- these names with their first places, and one more
abbrev pub with_name : List (ℕ × Text) → ℕ × Text → List (ℕ × Text)
with_name before x = with_first before x (first_of before x.1)

-- the names that stand before too, each where it stands again; `before` are those that stood so far, with their first places
abbrev pub again_after : List (ℕ × Text) → List (ℕ × Text) → List Repeated
again_after before [] = []
again_after before (x ∷ xs) = again_by x (first_of before x.1) ++ again_after (with_first before x (first_of before x.1)) xs

module _ (u : UnitView) where
  -- the places of the names of imports and declarations without a condition, in document order
  abbrev pub plain_places : List ℕ
  plain_places = imported (placed u).imports.children ++ declared (placed u).declarations.children

  -- the names of the identifiers at these places, with the places
  abbrev pub names_at : List ℕ → List (ℕ × Text)
  names_at ps = map (λ p. (p, spelling u (number_at u p))) ps

  -- those of the imports and declarations
  abbrev pub placed_names : List (ℕ × Text)
  placed_names = names_at plain_places

  -- those that are declared again, each for each time
  abbrev pub repeated : List Repeated
  repeated = again_after [] placed_names
