-- The line for the bytes of a bundle of texts: an answer or a fault.
use Rattle.std.specs.Prelude.{◌≡◌, ◌⊎◌, ℕ, List, [], ◌∷◌, Bool, true, codes}
use Rattle.serde_json.specs.Data.{Data, boolean, string, object, member, no_members}
use Rattle.wesl_tree_names.specs.Path.{Text}
use Rattle.wesl_tree_names.specs.declared.errors.Diagnostic.{Diagnostic, out-Diagnostic}
use Rattle.wesl_tree_names.specs.declared.errors.Error as error
use Rattle.wesl_tree_syntax.specs.Unit.{UnitView, spelled}
use Rattle.wesl_text_form.specs.Says.{TextSays}
use Rattle.wesl_link_engine.specs.Worlds.{Module}
use Rattle.wesl_program_bundle.specs.Bundle.{Bundle}
use Rattle.wesl_program.specs.Fault.{Fault, fault, fault_of}
use Rattle.wesl_program.specs.Line.{IsBundleOf, IsMapOf, IsNoBundle, SaysClash, fault_line, line_of, memory, told_value}
use Rattle.wesl_program.specs.Linking.{recorded_for}
use Rattle.wesl_program.specs.Places.{MayStand, Where}
use Rattle.wesl_program.specs.Validity.{IsValidUnder}
use Rattle.wesl_text_program.specs.Linking.{LacksText, LinksTexts, RefusesTexts}

-- ---- answers

-- the object of an answer: at `clash` whether names clash, at `map` what they stand for, and at `text` the text of the linked unit
abbrev pub answer_value : Bool → Data → Text → Data
answer_value clash map text = object (member (codes "clash") (boolean clash) (member (codes "map") map (member (codes "text") (string text) no_members)))

-- the text says a unit to which the texts of the bundle's modules link, which is valid under its built-in names, and the values tell
-- whether the unit's names clash and what is recorded of them
abbrev pub IsTextOf : Bundle → Bool → Data → Text → Type 0
IsTextOf b clash map text =
    (w : List Module) × (u : UnitView) × LinksTexts b w u × IsValidUnder b.builtins u
    × SaysClash clash u × IsMapOf (recorded_for b w) map × TextSays text (spelled u)

-- the bytes are a bundle's whose texts are linked, and the line says whether the names of its linked unit clash, what these stand for,
-- and has a text that says this unit, which is valid where the bundle has built-in names
abbrev pub IsTextLine : List ℕ → Text → Type 0
IsTextLine bytes line =
    (b : Bundle) × (clash : Bool) × (map : Data) × (text : Text)
    × IsBundleOf bytes b × IsTextOf b clash map text × (line ≡ line_of (answer_value clash map text))

-- ---- faults

-- the fault of a linked unit that no text says, with a reason
abbrev pub no_text : Text → Fault
no_text reason = fault (codes "NoText") (reason ∷ [])

-- a fault that stands in a link of the bundle's texts or in its linked unit, or that no text says this
abbrev pub TellsOfTexts : Bundle → Fault → Type 0
TellsOfTexts b f = ((e : error.Error) × RefusesTexts b e × (f ≡ fault_of e)) ⊎ ((reason : Text) × LacksText b × (f ≡ no_text reason))

-- which fault the bytes may be refused with: want of memory, why they are no bundle, or else one of the link of its texts
abbrev pub MayRefuseTexts : List ℕ → Fault → Type 0
MayRefuseTexts bytes f = (f ≡ memory) ⊎ IsNoBundle bytes f ⊎ ((b : Bundle) × IsBundleOf bytes b × TellsOfTexts b f)

-- the place may be told of the fault, as for a bundle that asks for places; of a text that says no unit any place in it too
abbrev pub MayStandInText : Fault → Where → Type 0
MayStandInText f p = MayStand true f p ⊎ (f.named ≡ codes "BadTree")

-- the line of the fault at a place that may be told of it, or the one for want of memory
abbrev pub TellsTextFault : Fault → Text → Type 0
TellsTextFault f line = (line ≡ fault_line memory) ⊎ ((p : Where) × MayStandInText f p × (line ≡ line_of (told_value f p)))

-- the line of the fault at any place, or the one for want of memory
abbrev pub IsLineAnywhere : Fault → Text → Type 0
IsLineAnywhere f line = (line ≡ fault_line memory) ⊎ ((p : Where) × (line ≡ line_of (told_value f p)))

-- the line of a linked unit that no text says, or the one for want of memory
abbrev pub IsLineOfNoText : Text → Type 0
IsLineOfNoText line = (line ≡ fault_line memory) ⊎ ((reason : Text) × (line ≡ fault_line (no_text reason)))

-- the second diagnostic, which the first holds, tells the same fault: a unit that is no text, or a text that says none
pub record IsUnreadIn (outer inner : Diagnostic) : Type 0 where
  pub same : fault_of (out-Diagnostic inner).error ≡ fault_of (out-Diagnostic outer).error
  pub unread : (fault_of (out-Diagnostic outer).error).named ≡ codes "BadTree"

-- the line of a fault that the bytes may be refused with, or the one for want of memory
abbrev pub IsTextFaultLine : List ℕ → Text → Type 0
IsTextFaultLine bytes line = (f : Fault) × MayRefuseTexts bytes f × TellsTextFault f line
