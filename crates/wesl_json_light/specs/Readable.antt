-- Which units are read again once they are written.
use Rattle.std.specs.Prelude.{◌≡◌, ◌⊎◌, ◌<◌, ℕ, List, [], ◌∷◌, ◌++◌, Bool, true, false, ◌&&◌, if◌then◌else◌, is_some, Some, None, All}
use Rattle.serde_json.specs.Data.{depth}
use Rattle.serde_json.specs.Written.{has_float}
use Rattle.wesl_tree_names.specs.Path.{Text, Path}
use Rattle.wesl_tree_names.specs.PathText.{parse, to_text}
use Rattle.wesl_tree_syntax.specs.Tree.{ForestOf, end, tree, kind, at, ident, text, texts, path, literal, diagnostic, diagnostic_directive, unit}
use Rattle.wesl_tree_syntax.specs.Unit.{UnitOf, UnitView, forest_of_unit, spelled}
use Rattle.wesl_tree.specs.Translation.{unit_view}
use Rattle.wesl_tree.specs.declared.unit.TranslationUnit.{TranslationUnit}
use Rattle.wesl_json_form.specs.Schema.{SpelledLabel, SpelledForest, node, a_unit, nonempty}
use Rattle.wesl_json_form.specs.Reading.{reading, is_literal, ordered}
use Rattle.wesl_json_form.specs.Units.{unit_tree, shown_unit, written_as, form_of}
use Rattle.wesl_json_light.specs.Order.{sorted}

-- the text of a literal is one that the format has, those of a diagnostic are any, each other one is a name
abbrev pub is_text_of : SpelledLabel → Text → Bool
is_text_of (kind literal) s = is_literal s
is_text_of (kind diagnostic) s = true
is_text_of (kind diagnostic_directive) s = true
is_text_of _ s = is_some (nonempty s)

-- each of the texts is nonempty; so it is where there are none
abbrev pub are_names : List Text → Bool
are_names [] = true
are_names (s ∷ ss) = is_some (nonempty s) && are_names ss

-- a label below another: names are nonempty, the text of a path says one, and a place does not end before it starts
abbrev pub is_readable : SpelledLabel → SpelledLabel → Bool
is_readable p (ident r s) = is_some (nonempty s)
is_readable p (text s) = is_text_of p s
is_readable p (texts ss) = are_names ss
is_readable p (path q) = is_some (parse (to_text q))
is_readable p (at k s e) = is_some (ordered s e)
is_readable p _ = true

-- trees that stand below a label
abbrev pub are_readable : SpelledLabel → SpelledForest → Bool
are_readable p end = true
are_readable p (tree l children others) = is_readable p l && (are_readable l children && are_readable p others)

-- A unit whose names are nonempty, whose literal texts are as the format says, whose path texts say paths, and whose spans do
-- not fall.
abbrev pub IsReadable : UnitOf Text → Type 0
IsReadable u = are_readable (kind unit) (forest_of_unit u) ≡ true

-- the text of a path is that of the same path, or of none
abbrev pub HasText : Path → Type 0
HasText p = (parse (to_text p) ≡ None) ⊎ (parse (to_text p) ≡ Some p)

-- the paths in a tree, in document order
abbrev pub paths : {I : Type 0} → ForestOf I → List Path
paths end = []
paths (tree (path p) children others) = p ∷ (paths children ++ paths others)
paths (tree l children others) = paths children ++ paths others

-- A unit whose path texts each say the same path or none: what it is written as in a form is read, in the form that it
-- says, as what the form shows of it, where all its texts and spans are as the format says, and not at all where one is not.
abbrev pub UnitsReadBack : Type 0
UnitsReadBack = (spans : Bool) (u : TranslationUnit) → All HasText (paths (forest_of_unit (spelled (unit_view u))))
    → (n : ℕ) → depth (written_as spans (unit_view u)) < n
    → reading (form_of (written_as spans (unit_view u))) n (node a_unit) (written_as spans (unit_view u))
    ≡ (if are_readable (kind unit) (forest_of_unit (shown_unit spans (unit_view u))) then Some (unit_tree (shown_unit spans (unit_view u))) else None)

-- what a unit is written as has no number that is not whole
abbrev pub HaveNoFloat : Type 0
HaveNoFloat = (spans : Bool) (u : UnitView) → has_float (written_as spans u) ≡ false

-- what a unit is written as has the members of each object in the order of their keys
abbrev pub AreSorted : Type 0
AreSorted = (spans : Bool) (u : UnitView) → sorted (written_as spans u) ≡ written_as spans u
