use Rattle.std.proofs.Common.{rules}
use Rattle.wesl_json.proofs.value_text.value_of_text.Goals as goal

pub returns-in-Err-clause-value : goal.returns-in-Err-clause-value
returns-in-Err-clause-value c = search rules

pub returns-in-Err-2-clause-value : goal.returns-in-Err-2-clause-value
returns-in-Err-2-clause-value c = search rules
