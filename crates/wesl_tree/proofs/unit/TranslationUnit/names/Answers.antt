use Rattle.std.proofs.Common.{rules}
use Rattle.wesl_tree.proofs.unit.TranslationUnit.names.Goals as goal

pub returns-clause-names : goal.returns-clause-names
returns-clause-names c = search rules
