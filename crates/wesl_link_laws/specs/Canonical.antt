-- The canonical numbers of worked modules, and their digits.
use Rattle.std.specs.Prelude.{ℕ, Bool, true, false, ◌&&◌, ◌==◌, Option, Some, List, [], ◌∷◌}
use mathlib.Core.Bool.{beq}
use Rattle.wesl_tree_names.specs.Path.{Text}
use Rattle.wesl_tree_syntax.specs.Unit.{UnitOf}
use Rattle.wesl_scope_occurrences.specs.Occurrences.{occurrences}
use Rattle.wesl_scope_meanings.specs.Scopes.{keys}
use Rattle.wesl_scope_numbers.specs.Canonical.{canonical}

-- the canonical numbers of the identifiers of a module, in document order
abbrev pub canonical_numbers : UnitOf Text → List ℕ
canonical_numbers u = canonical (keys (occurrences u))

-- whether the numbers of two identifiers are equal exactly where their digits are, where both carry digits
abbrev pub agree : Option ℕ → Option ℕ → ℕ → ℕ → Bool
agree (Some d) (Some e) m n = beq (d == e) (m == n)
agree _ _ m n = true

-- whether that holds of one identifier, of digits d and number m, and each of these; not where one list is longer
abbrev pub agrees_with : Option ℕ → ℕ → List (Option ℕ) → List ℕ → Bool
agrees_with d m (e ∷ es) (n ∷ ns) = agree d e m n && agrees_with d m es ns
agrees_with d m [] [] = true
agrees_with d m _ _ = false

-- whether that holds of each two of these identifiers; not where there are more numbers than digits, or fewer
abbrev pub numbers_agree : List (Option ℕ) → List ℕ → Bool
numbers_agree (d ∷ ds) (m ∷ ms) = agrees_with d m ds ms && numbers_agree ds ms
numbers_agree [] [] = true
numbers_agree _ _ = false
