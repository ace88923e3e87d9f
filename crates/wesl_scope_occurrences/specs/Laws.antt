-- Laws of the definitions, as functions of the crate cite them.
use Rattle.std.specs.Prelude.{◌≡◌, ℕ, ◌<◌, List, [], ◌∷◌, length, get_or, map}
use Rattle.wesl_tree_names.specs.Path.{Text}
use Rattle.wesl_tree_syntax.specs.Unit.{UnitView, UnitOf, forest_of_unit, trees_of, name_in, spelled}
use Rattle.wesl_tree_syntax.specs.Tree.{before, end, identifiers, kind, declarations}
use Rattle.wesl_scope_occurrences.specs.Occurrences.{OccurrenceIn, occurrences}
use Rattle.wesl_scope_occurrences.specs.Ways.{AreNested, way}
use Rattle.wesl_scope_occurrences.specs.Pieces.{declarations_in, pieces}

-- the module's block has the empty way, and any other block its number before the way of the block round it
pub record WaysLeadOutwards : Type 0 where
  pub whole : (outer : List ℕ) → 0 < length outer → way outer 0 ≡ []
  pub others : (outer : List ℕ) (b : ℕ) → AreNested outer → 0 < b → b < length outer → way outer b ≡ b ∷ way outer (get_or outer b 0)

-- an identifier under another name
abbrev pub renamed : {I J B : Type 0} → (I → J) → OccurrenceIn I B → OccurrenceIn J B
renamed f o = record { role = o.role; name = f o.name; place = o.place; block = o.block; declaration = o.declaration; excused = o.excused }

-- names in place of numbers change nothing but the names
abbrev pub SpellingKeepsOccurrences : Type 0
SpellingKeepsOccurrences = (u : UnitView) → occurrences (spelled u) ≡ map (renamed (name_in u.names)) (occurrences (trees_of u))

-- what is listed are the identifiers of the tree, each once
abbrev pub OccurrencesAreIdentifiers : Type 0
OccurrencesAreIdentifiers = (u : UnitOf ℕ) → map (λ o. o.name) (occurrences u) ≡ identifiers (forest_of_unit u)

-- the pieces are the identifiers of the global declarations
abbrev pub PiecesAreDeclarations : Type 0
PiecesAreDeclarations = (u : UnitOf Text) → u.declarations.label ≡ kind declarations
    → map (map (λ o. o.name)) (pieces u) ≡ map (λ t. identifiers (before t end)) (declarations_in u)
