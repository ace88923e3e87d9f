-- The words that declarations of variables begin with.
use Rattle.std.specs.Prelude.{ℕ, ◌∷◌, codes}
use Rattle.wesl_tree_names.specs.Path.{Text}
use Rattle.wesl_tree_syntax.specs.Tree.{Kind, const_kind, override_kind, let_kind, var_kind}
use Rattle.wesl_text_tokens.specs.Tokens.{name}
use Rattle.wesl_text_form.specs.Productions.{a_kind}
use Rattle.wesl_text_reading.specs.Reading.{Reader as TreeReader}
use Rattle.wesl_text_read.specs.Levels.{inner}
use Rattle.wesl_text_read_simple.specs.declared.kind.KindWord.{KindWord}
use Rattle.wesl_text_read_simple.specs.declared.kind.KindWord.TheVariants as words

-- the kind of a word, and its text:
abbrev pub word_kind : KindWord → Kind
word_kind words.Const = const_kind
word_kind words.Let = let_kind
word_kind words.Override = override_kind
word_kind words.Var = var_kind

abbrev pub word_text : KindWord → Text
word_text words.Const = codes "const"
word_text words.Let = codes "let"
word_text words.Override = codes "override"
word_text words.Var = codes "var"

-- the kind of a declaration that begins with this word, by the tokens behind it
abbrev pub kind_at : ℕ → Text → TreeReader
kind_at n t ts = inner n a_kind (name t ∷ ts)
