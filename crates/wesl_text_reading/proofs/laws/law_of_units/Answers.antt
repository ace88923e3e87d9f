use Rattle.wesl_text_reading.proofs.Promises as promises
use Rattle.wesl_text_reading.proofs.laws.law_of_units.Goals as goal

pub returns : goal.returns
returns c = record {
  units_are_read = promises.units_are_read;
  tokens_say_one_unit = promises.tokens_say_one_unit;
  text_says_one_unit = promises.text_says_one_unit;
}
