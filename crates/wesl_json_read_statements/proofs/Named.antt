-- The node that each word names.
use Rattle.std.proofs.Common.{◌≡◌, Bool, Some, None, refl}
use Rattle.serde_json.specs.Data.{Data}
use Rattle.wesl_json_form.specs.Schema.{look, a_statement}
use Rattle.wesl_json_form.specs.Nodes.{nodes_of, statement_words}
use Rattle.wesl_json_read.specs.Forms.{HasWord}
use Rattle.wesl_json_read.proofs.Steps.{picked}
use Rattle.wesl_json_read_statements.specs.Forms.{statement_of, statement_text}
use Rattle.wesl_json_read_statements.specs.declared.words.ValueWord.TheVariants as values
use Rattle.wesl_json_read_statements.specs.declared.words.DeclaredWord.TheVariants as declareds
use Rattle.wesl_json_read_statements.specs.declared.words.StatementWord.{StatementWord}
use Rattle.wesl_json_read_statements.specs.declared.words.StatementWord.TheVariants as stated

module _ (spans : Bool) where
  statement-looked : (w : StatementWord) → look (statement_words spans) (statement_text w) ≡ Some (statement_of spans w)
  statement-looked stated.Block = refl
  statement-looked stated.Assign = refl
  statement-looked stated.Increment = refl
  statement-looked stated.Decrement = refl
  statement-looked stated.If = refl
  statement-looked stated.Switch = refl
  statement-looked stated.Loop = refl
  statement-looked stated.For = refl
  statement-looked stated.While = refl
  statement-looked stated.Break = refl
  statement-looked stated.Continue = refl
  statement-looked stated.Discard = refl
  statement-looked stated.Return = refl
  statement-looked stated.Call = refl
  statement-looked (stated.Declared (declareds.Value values.Const)) = refl
  statement-looked (stated.Declared (declareds.Value values.Override)) = refl
  statement-looked (stated.Declared (declareds.Value values.Let)) = refl
  statement-looked (stated.Declared declareds.Var) = refl
  statement-looked (stated.Declared declareds.Assert) = refl
  statement-looked (stated.Declared declareds.Void) = refl

  pub statement-node : (w : StatementWord) (d : Data) → HasWord (statement_text w) d → nodes_of spans a_statement d ≡ Some (statement_of spans w)
  statement-node w d word = picked (statement_words spans) None d (statement_text w) (statement_of spans w) word (statement-looked w)
