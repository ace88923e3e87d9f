-- What reading notes of types, expressions and attributes.
use Rattle.std.specs.Prelude.{◌≡◌, Bool, Option, Some, None, codes}
use Rattle.std.specs.Global.{Box}
use Rattle.serde_json.specs.Data.{Data}
use Rattle.wesl_tree_syntax.specs.Tree.{Tree, absent, kind, leaf as leaf_tree}
use Rattle.wesl_tree_syntax.specs.declared.expression.Expression.{Expression}
use Rattle.wesl_tree_syntax.specs.declared.span.Spanned.{Spanned}
use Rattle.wesl_json_form.specs.Nodes.{type_row}
use Rattle.wesl_json_form.specs.Reading.{word_in}
use Rattle.wesl_json_form.specs.Schema.{SpelledLabel, Words, a_span, an_attribute, an_expression, beside, node}
use Rattle.wesl_json_read.specs.Faults.{Locates, LocatesPlain, LocatesRow, LocatesText}
use Rattle.wesl_json_read.specs.Forms.{HasAttributeWord, HasExpressionWord, ReadsAttribute, ReadsExpressionOf, attribute_of, row_of_expression, word_at}
use Rattle.wesl_json_read.specs.Gives.{boxed_expression}
use Rattle.wesl_json_read.specs.Noted.{Notes}
use Rattle.wesl_json_read.specs.Numbers.{ReadsPlain, ReadsType}
use Rattle.wesl_json_read.specs.declared.reader.Reader.{Reader}
use Rattle.wesl_json_read.specs.declared.words.AttributeWord.{AttributeWord}
use Rattle.wesl_json_read.specs.declared.words.ExpressionWord.{ExpressionWord}

-- the operator at `op`, of these
abbrev pub NotesOperator : Words → Data → SpelledLabel → Reader → Reader → Type 0
NotesOperator words d l = Notes (λ _ old new. (new ≡ old) × (word_at words (codes "op") d ≡ Some l)) (λ _. LocatesText (word_in words) (codes "op") d)

-- a nonempty text is read as a type by this name alone; another value is noted to be wrong
abbrev pub NotesPlain : Data → Tree → Reader → Reader → Type 0
NotesPlain d t = Notes (λ _. ReadsPlain d t) (λ _. LocatesPlain d)

-- an object is read as a type, but for its span, which it may have where it takes one
abbrev pub NotesType : Bool → Data → Tree → Reader → Reader → Type 0
NotesType takes_span d t = Notes (λ spans. ReadsType spans takes_span d t) (λ spans. LocatesRow spans (beside takes_span a_span type_row) d)

-- an object has this word of an expression, or has none at `k`; any other value at `k` is noted to be wrong
abbrev pub NotesExpressionWord : Data → Option ExpressionWord → Reader → Reader → Type 0
NotesExpressionWord d w = Notes (λ spans old new. (new ≡ old) × HasExpressionWord spans w d) (λ spans. Locates spans (node an_expression) d)

-- an object with this word, or with none, is read as an expression, but for its span
abbrev pub NotesExpression : Option ExpressionWord → Data → Tree → Reader → Reader → Type 0
NotesExpression w d t = Notes (λ spans. ReadsExpressionOf spans w d t) (λ spans. LocatesRow spans (row_of_expression spans w) d)

-- an object has this word of an attribute; that it has none, or another value at `k`, is noted
abbrev pub NotesAttributeWord : Data → AttributeWord → Reader → Reader → Type 0
NotesAttributeWord d w = Notes (λ spans old new. (new ≡ old) × HasAttributeWord spans w d) (λ spans. Locates spans (node an_attribute) d)

-- an object with this word is read as an attribute, but for its span
abbrev pub NotesAttribute : AttributeWord → Data → Tree → Reader → Reader → Type 0
NotesAttribute w d t = Notes (λ spans. ReadsAttribute spans w d t) (λ spans. LocatesRow spans (attribute_of spans w).row d)

-- the tree of an expression in a box, an absent one where memory was refused for the box
abbrev pub held : Option (Box (Spanned Expression)) → Tree
held None = leaf_tree (kind absent)
held (Some b) = boxed_expression b
