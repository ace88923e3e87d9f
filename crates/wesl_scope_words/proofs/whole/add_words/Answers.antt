use Rattle.std.proofs.Common.{arith}
use Rattle.std.proofs.lemmas.Grind.{common_steps}
use Rattle.wesl_scope_words.proofs.Reading.{one_joined}
use Rattle.wesl_scope_words.proofs.whole.add_words.Goals as goal

pub returns-in_ok-add_word-in-Some-default-Some : goal.returns-in_ok-add_word-in-Some-default-Some
returns-in_ok-add_word-in-Some-default-Some c = grind (arith, common_steps, one_joined)
