-- Which JSON text says which unit, and why a text is refused.
use Rattle.std.specs.Prelude.{◌≡◌, ◌⊎◌, ◌||◌, ℕ, ◌<◌, Bool, Some, None, true, option_map}
use Rattle.serde_json.specs.Data.{Data, depth}
use Rattle.serde_json.specs.Read.{read}
use Rattle.serde_json.specs.Written.{compact_text}
use Rattle.wesl_tree_names.specs.Path.{Text}
use Rattle.wesl_tree_names.specs.declared.errors.Error as error
use Rattle.wesl_tree_syntax.specs.Tree.{respell, imports, directive_list, declarations}
use Rattle.wesl_tree_syntax.specs.Shown.{placed}
use Rattle.wesl_tree_syntax.specs.Unit.{UnitOf, UnitView, spelled}
use Rattle.wesl_json_form.specs.Schema.{Spelled, list_of, node, a_unit, a_declaration, a_directive, an_import}
use Rattle.wesl_json_form.specs.Reading.{reading}
use Rattle.wesl_json_form.specs.Units.{form_of, unit_tree, written_as, IsBrokenUnit, IsNoUnit, IsUnitOf}
use Rattle.wesl_json_form.specs.Writing.{written}
use Rattle.wesl_json_light.specs.Numbers.{has_number}
use Rattle.wesl_json_read.specs.Faults.{place_of}
use Rattle.wesl_resolve_base.specs.UnitText.{HasTextPaths}

-- a tree without its spans
abbrev pub bare : Spelled → Spelled
bare t = respell (λ s. s) t

-- the value stands for a unit that is spelled so: at each number of levels above its depth that is its reading, spans aside
abbrev pub IsSpelled : Data → UnitOf Text → Type 0
IsSpelled d u = (n : ℕ) → depth d < n → option_map bare (reading (form_of d) n (node a_unit) d) ≡ Some (unit_tree u)

-- the value stands for no unit, and breaks the form of one at the place that is told
abbrev pub IsTreeFault : Data → error.Error → Type 0
IsTreeFault d e = (place : Text) × (place_of e ≡ Some place) × IsBrokenUnit d place × IsNoUnit d

-- what holds of the value that a text is, where it is JSON
abbrev pub OfText : Text → (Data → Type 0) → Type 0
OfText text P = (d : Data) → read text ≡ Some d → P d

-- the text is JSON, and this is the unit that its value stands for, with its spans and the numbers of its names
abbrev pub IsUnitOfText : Text → UnitView → Type 0
IsUnitOfText text u = (d : Data) × (read text ≡ Some d) × IsUnitOf d u

-- the text is JSON, and its value stands for a unit that is spelled so
abbrev pub ReadsAs : Text → UnitOf Text → Type 0
ReadsAs text u = (d : Data) × (read text ≡ Some d) × IsSpelled d u

-- the text is no JSON, or its value stands for no unit
abbrev pub IsUnreadable : Text → error.Error → Type 0
IsUnreadable text e =
    (e ≡ error.NotJson) × (read text ≡ None)
    ⊎ ((d : Data) × (read text ≡ Some d) × IsTreeFault d e)

-- form 2 writes a span in one of the lists of a unit: no other number stands there
abbrev pub shows_span : UnitOf Text → Bool
shows_span v =
    has_number (written true (list_of imports an_import) v.imports)
    || has_number (written true (list_of directive_list a_directive) v.directives)
    || has_number (written true (list_of declarations a_declaration) v.declarations)

-- the value whose text a unit is printed as: in form 2 where that writes a span, else in form 1
abbrev pub chosen_value : UnitView → Data
chosen_value u = written_as (shows_span (placed u)) u

-- the text, with no space, of the value that a unit of this spelling is printed as; where it is read as a unit, this one has the
-- same spelling, if each path in the first has a text that says the same path or none
pub record PrintsAs (u : UnitOf Text) (text : Text) : Type 0 where
  pub compact : (v : UnitView) × (spelled v ≡ u) × (text ≡ compact_text (chosen_value v))
  pub read_back : HasTextPaths u → (v : UnitOf Text) → ReadsAs text v → v ≡ u
