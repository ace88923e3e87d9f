use Rattle.std.proofs.Common.{refl}
use Rattle.serde_json.proofs.OnLiterals.{serde_json_on_literals}
use Rattle.wesl_program.proofs.lines.memory_line.Goals as goal

pub returns : goal.returns
unfolding serde_json_on_literals
returns c = refl
