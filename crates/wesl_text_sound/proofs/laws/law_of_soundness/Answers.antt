use Rattle.wesl_text_sound.proofs.Said as said
use Rattle.wesl_text_sound.proofs.TokensAre as tokens
use Rattle.wesl_text_sound.proofs.laws.law_of_soundness.Goals as goal

pub returns : goal.returns
returns c = record {
  trees_are_said = said.trees_are_said;
  units_are_said = said.units_are_said;
  tokens_of_texts = tokens.tokens_of_texts;
  texts_are_said = said.texts_are_said;
}
