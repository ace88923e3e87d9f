use Rattle.std.proofs.Common.{rules}
use Rattle.wesl_json_form.proofs.stacks.Stacks.key.Goals as goal

pub returns-then-eq-clause-text : goal.returns-then-eq-clause-text
returns-then-eq-clause-text c = search rules
