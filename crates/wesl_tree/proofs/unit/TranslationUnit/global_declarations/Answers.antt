use Rattle.std.proofs.Common.{rules}
use Rattle.wesl_tree.proofs.unit.TranslationUnit.global_declarations.Goals as goal

pub returns-clause-declarations : goal.returns-clause-declarations
returns-clause-declarations c = search rules
