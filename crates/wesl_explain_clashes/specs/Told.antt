-- What is told of what clashes in a linked unit.
use Rattle.std.specs.Prelude.{◌≡◌, map, string_bytes}
use Rattle.wesl_tree_names.specs.Path.{Text}
use Rattle.wesl_tree_syntax.specs.Unit.{UnitView}
use Rattle.wesl_scope_clashes.specs.Clashes.{ClashOf, clashes}
use Rattle.wesl_scope_words.specs.Captured.{WordClashOf, word_clashes}
use Rattle.wesl_explain_clashes.specs.declared.clash.Clashes.{Clashes}
use Rattle.wesl_explain_clashes.specs.declared.clash.NameClash.{NameClash}

-- the name as it is printed
abbrev pub printed : NameClash → Text
printed c = string_bytes c.name

-- the name of one that clashes, and the word that is captured:
abbrev pub name : ClashOf → Text
name k = k.name

abbrev pub word : WordClashOf → Text
word k = k.word

-- the names that are told are just those that read otherwise than their numbers say, in document order
abbrev pub TellsNames : UnitView → Clashes → Type 0
TellsNames u c = map printed c.names.items ≡ map name (clashes u)

-- the words that are told are just those that declarations capture, by the variables and then as each says them
abbrev pub TellsWords : UnitView → Clashes → Type 0
TellsWords u c = map printed c.words.items ≡ map word (word_clashes u)
