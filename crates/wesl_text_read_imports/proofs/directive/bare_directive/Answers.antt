use Rattle.std.proofs.Common.{rules}
use Rattle.wesl_tree_syntax.specs.View.{directive_view}
use Rattle.wesl_text_read_imports.specs.declared.directive_word.DirectiveWord.TheVariants as words
use Rattle.wesl_text_read_imports.proofs.Directives.{directive_there, no_directive_there}
use Rattle.wesl_text_read_imports.proofs.directive.bare_directive.Goals as goal

pub returns-in-Some-Diagnostic : goal.returns-in-Some-Diagnostic
returns-in-Some-Diagnostic c = directive_there _ words.Diagnostic (directive_view c.diagnostic.result) c.behind_attributes.ensures (search rules) c.diagnostic.ensures

pub returns-in-Some-Enable : goal.returns-in-Some-Enable
returns-in-Some-Enable c = directive_there _ words.Enable (directive_view c.enable.result) c.behind_attributes.ensures (search rules) c.enable.ensures

pub returns-in-Some-Requires : goal.returns-in-Some-Requires
returns-in-Some-Requires c = directive_there _ words.Requires (directive_view c.requires_names.result) c.behind_attributes.ensures (search rules) c.requires_names.ensures

pub returns-in-None : goal.returns-in-None
returns-in-None c = no_directive_there _ (directive_view c.no_directive.result) c.behind_attributes.ensures (search rules) c.wrong.ensures
