use Rattle.std.proofs.Common.{rules}
use Rattle.wesl_tree.proofs.unit.TranslationUnit.from_parts.Goals as goal

pub invariant_of-result : goal.invariant_of-result
invariant_of-result c = search rules

pub returns-else-imports_are_below : goal.returns-else-imports_are_below
returns-else-imports_are_below c = search rules
