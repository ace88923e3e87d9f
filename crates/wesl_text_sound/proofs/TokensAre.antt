-- The names among the tokens of a text are words, and the numbers are numbers.
use Rattle.std.proofs.Common.{List, [], ◌∷◌, refl, ap, ◌∙◌}
use Rattle.wesl_text_tokens.specs.Tokens.{Token, name, number}
use Rattle.wesl_text_sound.proofs.EachToken.{StandsAlone, EachToken}
use Rattle.wesl_text_sound.proofs.Alone.{names_stand_alone}
use Rattle.wesl_text_form.specs.Names.{is_alone}
use Rattle.wesl_text_sound.specs.Laws.{AreTokens, TokensOfTexts}
use Rattle.wesl_text_sound.proofs.LeavesSaid.{same_text}

are_tokens : (ts : List Token) → EachToken StandsAlone ts → AreTokens ts
are_tokens [] h = tt
are_tokens (name t ∷ ts) h = (ap (is_alone (name t)) h.0 ∙ same_text t, are_tokens ts h.1)
are_tokens (number t ∷ ts) h = (ap (is_alone (number t)) h.0 ∙ same_text t, are_tokens ts h.1)
are_tokens (t ∷ ts) h = (refl, are_tokens ts h.1)

pub tokens_of_texts : TokensOfTexts
tokens_of_texts t ts u h = are_tokens ts (names_stand_alone t ts u h)
