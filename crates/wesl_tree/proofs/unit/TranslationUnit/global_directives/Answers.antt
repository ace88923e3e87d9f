use Rattle.std.proofs.Common.{rules}
use Rattle.wesl_tree.proofs.unit.TranslationUnit.global_directives.Goals as goal

pub returns-clause-directives : goal.returns-clause-directives
returns-clause-directives c = search rules
