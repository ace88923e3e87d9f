use Rattle.std.proofs.Common.{arith}
use Rattle.std.proofs.lemmas.Grind.{common_steps}
use Rattle.wesl_text_tokens.proofs.lists.Lists.greater.Goals as goal

pub returns-in_ok-push-in-Some-2-clause-known : goal.returns-in_ok-push-in-Some-2-clause-known
returns-in_ok-push-in-Some-2-clause-known c = grind (arith, common_steps)
