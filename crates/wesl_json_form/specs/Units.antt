-- Which unit a value stands for, and which value a unit is written as.
use Rattle.std.specs.Prelude.{◌≡◌, ◌⊎◌, ℕ, ◌+◌, ◌<◌, List, [], ◌∷◌, length, Bool, true, false, is_some, Some, None, codes, slice_get}
use Rattle.serde_json.specs.Data.{Data, depth}
use Rattle.serde_json.specs.Find.{get}
use Rattle.wesl_tree_names.specs.Path.{Text}
use Rattle.wesl_tree_syntax.specs.Tree.{kind, unit}
use Rattle.wesl_tree_syntax.specs.Unit.{UnitView, UnitOf, forest_of_unit, spelled, numbers}
use Rattle.wesl_tree_syntax.specs.Shown.{placed}
use Rattle.wesl_json_form.specs.Schema.{Spelled, node, a_unit, Table}
use Rattle.wesl_json_form.specs.Nodes.{whole_form}
use Rattle.wesl_json_form.specs.Reading.{reading}
use Rattle.wesl_json_form.specs.Place.{IsBroken}
use Rattle.wesl_json_form.specs.Writing.{written}

-- a unit as one tree of names
abbrev pub unit_tree : UnitOf Text → Spelled
unit_tree u = record { label = kind unit; children = forest_of_unit u }

-- each number is below the count so far, or the next one
abbrev pub NumberedFrom : ℕ → List ℕ → ℕ → Type 0
NumberedFrom n [] m = m ≡ n
NumberedFrom n (i ∷ is) m = (i < n) × NumberedFrom n is m ⊎ (i ≡ n) × NumberedFrom (n + 1) is m

-- no name stands at two numbers
abbrev pub AreDistinct : List Text → Type 0
AreDistinct names = (i j : ℕ) (s : Text) → slice_get names i ≡ Some s → slice_get names j ≡ Some s → i ≡ j

-- a value with the key `form` is of form 2, which has spans; another is of form 1
abbrev pub says_form : Data → Bool
says_form d = is_some (get (codes "form") d)

-- the form by which a value is read as a unit: form 2 where it has the key `form`, else form 1
abbrev pub form_of : Data → Table
form_of d = whole_form (says_form d)

-- the unit that a value stands for
pub record IsUnitOf (d : Data) (u : UnitView) : Type 0 where
  -- its reading, at each number of levels above the depth: names for identifiers, and spans
  pub read : (n : ℕ) → depth d < n → reading (form_of d) n (node a_unit) d ≡ Some (unit_tree (placed u))
  -- one number a name, by first occurrence in document order
  pub numbered : NumberedFrom 0 (numbers u) (length u.names)
  pub distinct : AreDistinct u.names

-- a place of a value that stands for none
abbrev pub IsBrokenUnit : Data → Text → Type 0
IsBrokenUnit d place = IsBroken (form_of d) (node a_unit) d place

-- no number of levels reads the value
abbrev pub IsNoUnit : Data → Type 0
IsNoUnit d = (n : ℕ) → reading (form_of d) n (node a_unit) d ≡ None

-- what a form shows of a unit: its spelling, and in form 2 its spans too
abbrev pub shown_unit : Bool → UnitView → UnitOf Text
shown_unit false u = spelled u
shown_unit true u = placed u

-- the value that a unit is written as, in form 2 where spans are written
abbrev pub written_as : Bool → UnitView → Data
written_as spans u = written spans (node a_unit) (unit_tree (shown_unit spans u))

-- what a unit is written as in form 1, without its spans
abbrev pub unit_value : UnitView → Data
unit_value u = written_as false u

-- what a unit is written as in form 2, with its spans
abbrev pub unit_value_2 : UnitView → Data
unit_value_2 u = written_as true u
