-- Units of numbered identifiers, and whether their numbers are the canonical ones.
use Rattle.std.specs.Prelude.{ℕ, Bool, bytes_eq, List, [], ◌∷◌}
use Rattle.wesl_tree_names.specs.Path.{Text}
use Rattle.wesl_tree_syntax.specs.Tree.{TreeOf, branch, expression_node, call_expression}
use Rattle.wesl_tree_syntax.specs.Unit.{UnitView, UnitOf, spelled, numbers}
use Rattle.wesl_link_laws.specs.Builders.{placed, called}
use Rattle.wesl_link_laws.specs.Canonical.{canonical_numbers}

-- an expression that calls t with these arguments
abbrev pub call_of : {I : Type 0} → TreeOf I → List (TreeOf I) → TreeOf I
call_of t es = placed expression_node (branch call_expression (called t es ∷ []))

-- the unit with these trees, where these are the names of its numbers
abbrev pub unit_of : List Text → UnitOf ℕ → UnitView
unit_of names t = record { names = names; imports = t.imports; directives = t.directives; declarations = t.declarations }

-- whether new numbers by meaning are the numbers that it has
abbrev pub is_retargeted : UnitView → Bool
is_retargeted u = bytes_eq (canonical_numbers (spelled u)) (numbers u)
