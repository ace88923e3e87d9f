-- The words of directives.
use Rattle.wesl_tree_syntax.specs.Tree.{Kind, diagnostic_directive, enable_directive, requires_directive}
use Rattle.wesl_text_read_imports.specs.declared.directive_word.DirectiveWord.{DirectiveWord}
use Rattle.wesl_text_read_imports.specs.declared.directive_word.DirectiveWord.TheVariants as words

-- the kinds of the directives that words begin
abbrev pub directive_kind : DirectiveWord → Kind
directive_kind words.Diagnostic = diagnostic_directive
directive_kind words.Enable = enable_directive
directive_kind words.Requires = requires_directive
