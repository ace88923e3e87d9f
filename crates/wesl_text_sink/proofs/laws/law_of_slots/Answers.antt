use Rattle.wesl_text_sink.proofs.SlotWords.{slots_are_tokens}
use Rattle.wesl_text_sink.proofs.laws.law_of_slots.Goals as goal

pub returns : goal.returns
returns c = slots_are_tokens
