use Rattle.std.proofs.Common.{rules}
use Rattle.wesl_tree.proofs.unit.TranslationUnit.imports.Goals as goal

pub returns-clause-imports : goal.returns-clause-imports
returns-clause-imports c = search rules
