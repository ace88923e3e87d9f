-- What reading notes of an object by its word, and of names.
use Rattle.std.specs.Prelude.{◌≡◌, Option, codes, is_some}
use Rattle.serde_json.specs.Data.{Data}
use Rattle.serde_json.specs.Find.{get}
use Rattle.wesl_tree_names.specs.declared.names.Ident.{Ident}
use Rattle.wesl_tree_syntax.specs.Tree.{Tree, binder}
use Rattle.wesl_tree_syntax.specs.View.{ident_tree, optional}
use Rattle.wesl_json_form.specs.Schema.{a_declaration, a_directive, an_ident, leaf, node}
use Rattle.wesl_json_read.specs.Faults.{Locates, LocatesInside, LocatesRow}
use Rattle.wesl_json_read.specs.Forms.{HasWord}
use Rattle.wesl_json_read.specs.Numbers.{ReadsMay}
use Rattle.wesl_json_read_unit.specs.Forms.{ReadsDeclaration, ReadsDirective, declaration_of, declaration_text, directive_of, directive_text}
use Rattle.wesl_json_read.specs.Noted.{Notes}
use Rattle.wesl_json_read.specs.declared.reader.Reader.{Reader}
use Rattle.wesl_json_read_unit.specs.declared.words.DeclarationWord.{DeclarationWord}
use Rattle.wesl_json_read_unit.specs.declared.words.DirectiveWord.{DirectiveWord}

-- an object with this word of a directive is read as the tree, but for its span
abbrev pub NotesDirective : DirectiveWord → Data → Tree → Reader → Reader → Type 0
NotesDirective w d t = Notes (λ spans. ReadsDirective spans w d t) (λ spans. LocatesRow spans (directive_of spans w).row d)

-- an object with this word of a global declaration is read as the tree, but for its span
abbrev pub NotesDeclaration : DeclarationWord → Data → Tree → Reader → Reader → Type 0
NotesDeclaration w d t = Notes (λ spans. ReadsDeclaration spans w d t) (λ spans. LocatesRow spans (declaration_of spans w).row d)

-- an object has this word of a directive; that it has none, or another value at `k`, is noted
abbrev pub NotesDirectiveWord : Data → DirectiveWord → Reader → Reader → Type 0
NotesDirectiveWord d w = Notes (λ _ old new. (new ≡ old) × HasWord (directive_text w) d) (λ spans. Locates spans (node a_directive) d)

-- an object has this word of a global declaration; that it has none, or another value at `k`, is noted
abbrev pub NotesDeclarationWord : Data → DeclarationWord → Reader → Reader → Type 0
NotesDeclarationWord d w = Notes (λ _ old new. (new ≡ old) × HasWord (declaration_text w) d) (λ spans. Locates spans (node a_declaration) d)

-- the other name of an imported item, where it has one
abbrev pub NotesRename : Data → Option Ident → Reader → Reader → Type 0
NotesRename d o =
    Notes (λ spans old new. (is_some o ≡ is_some (get (codes "as") d)) × ReadsMay spans (codes "as") (leaf (an_ident binder)) d (optional (ident_tree binder) o) old new)
    (λ spans. LocatesInside spans (codes "as") (leaf (an_ident binder)) d)
