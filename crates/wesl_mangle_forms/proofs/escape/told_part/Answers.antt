use Rattle.std.proofs.Common.{rules}
use Rattle.wesl_mangle_forms.proofs.escape.told_part.Goals as goal

pub returns : goal.returns
returns c = search rules
