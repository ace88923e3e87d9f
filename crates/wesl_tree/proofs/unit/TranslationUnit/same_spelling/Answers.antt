use Rattle.std.proofs.Common.{rules}
use Rattle.wesl_tree.proofs.unit.TranslationUnit.same_spelling.Goals as goal

pub returns-then-same_directives : goal.returns-then-same_directives
returns-then-same_directives c = search rules

pub returns-else-same_directives : goal.returns-else-same_directives
returns-else-same_directives c = search rules
