-- What reading notes of statements, and of what stands in modules and in functions.
use Rattle.std.specs.Prelude.{◌≡◌, Some, codes}
use Rattle.serde_json.specs.Data.{Data}
use Rattle.wesl_tree_syntax.specs.Tree.{Tree, space}
use Rattle.wesl_tree_syntax.specs.declared.declaration.AddressSpace.{AddressSpace}
use Rattle.wesl_json_form.specs.Reading.{word_in}
use Rattle.wesl_json_form.specs.Schema.{a_statement, node}
use Rattle.wesl_json_form.specs.Words.{space_words}
use Rattle.wesl_json_read.specs.Faults.{Locates, LocatesRow, LocatesText}
use Rattle.wesl_json_read.specs.Forms.{HasWord, word_at}
use Rattle.wesl_json_read.specs.Noted.{Notes}
use Rattle.wesl_json_read.specs.declared.reader.Reader.{Reader}
use Rattle.wesl_json_read_statements.specs.Forms.{ReadsDeclared, ReadsStatement, declared_worded, statement_of, statement_text}
use Rattle.wesl_json_read_statements.specs.declared.words.DeclaredWord.{DeclaredWord}
use Rattle.wesl_json_read_statements.specs.declared.words.StatementWord.{StatementWord}

-- an object with this word of a declaration, an assertion or a void is read as the tree, but for its span
abbrev pub NotesDeclared : DeclaredWord → Data → Tree → Reader → Reader → Type 0
NotesDeclared w d t = Notes (λ spans. ReadsDeclared spans w d t) (λ spans. LocatesRow spans (declared_worded spans w) d)

-- an object with this word of a statement is read as the tree, but for its span
abbrev pub NotesStatement : StatementWord → Data → Tree → Reader → Reader → Type 0
NotesStatement w d t = Notes (λ spans. ReadsStatement spans w d t) (λ spans. LocatesRow spans (statement_of spans w).row d)

-- an object has this word of a statement; that it has none, or another value at `k`, is noted
abbrev pub NotesStatementWord : Data → StatementWord → Reader → Reader → Type 0
NotesStatementWord d w = Notes (λ _ old new. (new ≡ old) × HasWord (statement_text w) d) (λ spans. Locates spans (node a_statement) d)

-- the address space at `space`
abbrev pub NotesSpace : Data → AddressSpace → Reader → Reader → Type 0
NotesSpace d s = Notes (λ _ old new. (new ≡ old) × (word_at space_words (codes "space") d ≡ Some (space s))) (λ _. LocatesText (word_in space_words) (codes "space") d)
