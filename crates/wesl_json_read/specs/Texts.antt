-- The kinds of texts that stand in a tree, and how each is read.
use Rattle.std.specs.Prelude.{◌≡◌, Option, Some, String, string_bytes}
use Rattle.std.specs.Global.{Global}
use Rattle.serde_json.specs.Data.{Data}
use Rattle.serde_json.specs.Find.{as_str}
use Rattle.wesl_tree_names.specs.Path.{Text}
use Rattle.wesl_json_form.specs.Reading.{literal_in, name_in}
use Rattle.wesl_json_form.specs.Schema.{Leaf, a_literal, a_name, a_text}
use Rattle.wesl_json_read.specs.Faults.{LocatesHere}
use Rattle.wesl_json_read.specs.Noted.{Notes}
use Rattle.wesl_json_read.specs.declared.leaves.TextKind.{TextKind}
use Rattle.wesl_json_read.specs.declared.leaves.TextKind.TheVariants as kinds
use Rattle.wesl_json_read.specs.declared.reader.Reader.{Reader}

-- what the form asks for where a text of this kind stands
abbrev pub text_leaf : TextKind → Leaf
text_leaf kinds.Name = a_name
text_leaf kinds.Literal = a_literal
text_leaf kinds.Any = a_text

-- the text that a value is, of this kind: a name is not empty, a literal neither empty nor `true` nor `false`
abbrev pub text_read : TextKind → Data → Option Text
text_read kinds.Name d = name_in d
text_read kinds.Literal d = literal_in d
text_read kinds.Any d = as_str d

-- the value is a text of this kind
abbrev pub NotesText : TextKind → Data → String Global → Reader → Reader → Type 0
NotesText k d x = Notes (λ _ old new. (new ≡ old) × (text_read k d ≡ Some (string_bytes x))) (λ _. LocatesHere (text_read k d))
