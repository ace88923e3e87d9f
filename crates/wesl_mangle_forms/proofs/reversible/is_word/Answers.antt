use Rattle.std.proofs.Common.{rules}
use Rattle.wesl_mangle_forms.proofs.reversible.is_word.Goals as goal

pub returns-else-eq-3 : goal.returns-else-eq-3
returns-else-eq-3 c = search rules
