use Rattle.std.proofs.Common.{rules}
use Rattle.wesl_tree.proofs.unit.TranslationUnit.same_spans.Goals as goal

pub returns-then-directives_agree : goal.returns-then-directives_agree
returns-then-directives_agree c = search rules

pub returns-else-directives_agree : goal.returns-else-directives_agree
returns-else-directives_agree c = search rules
