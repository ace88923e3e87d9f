use Rattle.wesl_text_reading.proofs.Promises as promises
use Rattle.wesl_text_reading.proofs.laws.law_of_reading.Goals as goal

pub returns : goal.returns
returns c = record { trees_are_read = promises.trees_are_read; tokens_say_one_tree = promises.tokens_say_one_tree }
