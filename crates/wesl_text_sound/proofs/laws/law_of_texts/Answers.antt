use Rattle.wesl_text_sound.proofs.Texts as texts
use Rattle.wesl_text_sound.proofs.laws.law_of_texts.Goals as goal

pub returns : goal.returns
returns c = record {
  texts_say_what_is_read = texts.texts_say_what_is_read;
  texts_say_no_other = texts.texts_say_no_other;
  unread_texts_say_more = texts.unread_texts_say_more;
}
