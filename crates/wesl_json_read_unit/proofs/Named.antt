-- The node that each word names.
use Rattle.std.proofs.Common.{◌≡◌, Bool, Some, None, refl}
use Rattle.serde_json.specs.Data.{Data}
use Rattle.wesl_json_form.specs.Schema.{look, a_declaration, a_directive}
use Rattle.wesl_json_form.specs.Nodes.{declaration_words, directive_words, nodes_of}
use Rattle.wesl_json_read.specs.Forms.{HasWord}
use Rattle.wesl_json_read.proofs.Steps.{picked}
use Rattle.wesl_json_read_statements.specs.declared.words.ValueWord.TheVariants as values
use Rattle.wesl_json_read_statements.specs.declared.words.DeclaredWord.TheVariants as declareds
use Rattle.wesl_json_read_unit.specs.Forms.{declaration_of, declaration_text, directive_of, directive_text}
use Rattle.wesl_json_read_unit.specs.declared.words.DeclarationWord.{DeclarationWord}
use Rattle.wesl_json_read_unit.specs.declared.words.DeclarationWord.TheVariants as globals
use Rattle.wesl_json_read_unit.specs.declared.words.DirectiveWord.{DirectiveWord}
use Rattle.wesl_json_read_unit.specs.declared.words.DirectiveWord.TheVariants as directed

module _ (spans : Bool) where
  declaration-looked : (w : DeclarationWord) → look (declaration_words spans) (declaration_text w) ≡ Some (declaration_of spans w)
  declaration-looked globals.Alias = refl
  declaration-looked globals.Struct = refl
  declaration-looked globals.Function = refl
  declaration-looked (globals.Declared (declareds.Value values.Const)) = refl
  declaration-looked (globals.Declared (declareds.Value values.Override)) = refl
  declaration-looked (globals.Declared (declareds.Value values.Let)) = refl
  declaration-looked (globals.Declared declareds.Var) = refl
  declaration-looked (globals.Declared declareds.Assert) = refl
  declaration-looked (globals.Declared declareds.Void) = refl

  directive-looked : (w : DirectiveWord) → look (directive_words spans) (directive_text w) ≡ Some (directive_of spans w)
  directive-looked directed.Enable = refl
  directive-looked directed.Requires = refl
  directive-looked directed.Diagnostic = refl

  pub declaration-node : (w : DeclarationWord) (d : Data) → HasWord (declaration_text w) d → nodes_of spans a_declaration d ≡ Some (declaration_of spans w)
  declaration-node w d word = picked (declaration_words spans) None d (declaration_text w) (declaration_of spans w) word (declaration-looked w)

  pub directive-node : (w : DirectiveWord) (d : Data) → HasWord (directive_text w) d → nodes_of spans a_directive d ≡ Some (directive_of spans w)
  directive-node w d word = picked (directive_words spans) None d (directive_text w) (directive_of spans w) word (directive-looked w)
