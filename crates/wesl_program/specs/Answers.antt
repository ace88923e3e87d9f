-- What is answered of the bytes of a bundle.
use Rattle.std.specs.Prelude.{◌≡◌, ◌++◌, ℕ, List, Some, map}
use Rattle.std.specs.Borrow.{Bor}
use Rattle.json.specs.Token.{Token}
use Rattle.json.specs.Tree.{members_tokens}
use Rattle.serde_json.specs.Data.{Data}
use Rattle.serde_json.specs.Written.{compact_text, members_outline}
use Rattle.wesl_json_form.specs.Units.{written_as}
use Rattle.wesl_tree_names.specs.Path.{Text, path_view}
use Rattle.wesl_tree_names.specs.declared.path.ModulePath.{ModulePath}
use Rattle.wesl_tree.specs.Translation.{unit_view}
use Rattle.wesl_source_map.specs.BasicView.{items}
use Rattle.wesl_source_map.specs.declared.basic.BasicSourceMap.{BasicSourceMap}
use Rattle.wesl_source_map_entries.specs.Records.{Item}
use Rattle.wesl_program_bundle.specs.Bundle.{Bundle, bundle_of}
use Rattle.wesl_program.specs.Line.{IsAnswerOf, IsJsonOf, IsMapOf, answer_value, line_of, map_members}
use Rattle.wesl_program.specs.declared.answer.Answer.{Answer}

-- a name, with the path of the module and the item of it that it stands for
abbrev pub entry_view : Bor Text × Bor ModulePath × Bor Text → Text × Item
entry_view e = (e.0.now, (path_view e.1.now, e.2.now))

-- the members of the object of such entries, with its end
abbrev pub entries_tokens : List (Bor Text × Bor ModulePath × Bor Text) → List Token
entries_tokens es = members_tokens (members_outline (map_members (map entry_view es)))

-- an object that tells the map is printed behind a text
abbrev pub PrintsMap : BasicSourceMap → Text → Text → Type 0
PrintsMap source_map before after = (d : Data) × IsMapOf (items source_map) d × (after ≡ before ++ compact_text d)

-- the text is the line of an answer, whose map is told as an object
abbrev pub IsLineOf : Answer → Text → Type 0
IsLineOf a line = (map : Data) × IsMapOf (items a.map) map × (line ≡ line_of (answer_value a.clash map (written_as a.spans (unit_view a.unit))))

-- this is what is answered of the bundle, with its map told as an object
abbrev pub AnswersBundle : Bundle → Answer → Type 0
AnswersBundle b a = (map : Data) → IsMapOf (items a.map) map → IsAnswerOf b a.clash map (written_as a.spans (unit_view a.unit))

-- the bytes are a bundle's that is linked, and this is what is answered of it
abbrev pub IsAnswerFor : List ℕ → Answer → Type 0
IsAnswerFor bytes a = (d : Data) × (b : Bundle) × IsJsonOf bytes d × (bundle_of d ≡ Some b) × AnswersBundle b a
