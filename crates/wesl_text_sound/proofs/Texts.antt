-- A text says just what its tokens are read as.
use Rattle.std.proofs.Common.{◌≡◌, ◌⊎◌, ◌<◌, ◌≤◌, true, false, nat_le, List, Some, sym as turned, inl, inr, ◌∙◌, subst, le_refl}
use Rattle.std.proofs.lemmas.Bool.Decides.{leb_tells}
use Rattle.wesl_tree_names.specs.Path.{Text}
use Rattle.wesl_tree_syntax.specs.Unit.{UnitOf, forest_of_unit}
use Rattle.wesl_text_tokens.specs.Tokens.{Token, tokens}
use Rattle.wesl_text_form.specs.Says.{Says, TextSays, levels}
use Rattle.wesl_text_reading.proofs.Filled.{no_some, of_some}
use Rattle.wesl_text_reading.proofs.Promises.{units_are_read, text_says_one_unit}
use Rattle.wesl_text_sound.specs.Laws.{TextsSayWhatIsRead, TextsSayNoOther, UnreadTextsSayMore}
use Rattle.wesl_text_sound.proofs.Said.{texts_are_said}

-- what a text says, its tokens say
tokens_say : (t : Text) (ts : List Token) (u : UnitOf Text) → tokens t ≡ Some ts → TextSays t u → Says ts u
tokens_say t ts u e h = subst (λ z. Says z u) (of_some h.0 ts (turned h.1 ∙ e)) h.2

pub texts_say_what_is_read : TextsSayWhatIsRead
texts_say_what_is_read t ts u k e =
    (λ h. (levels (forest_of_unit u), units_are_read (levels (forest_of_unit u)) ts u (tokens_say t ts u e h) (le_refl (levels (forest_of_unit u)))), λ h. texts_are_said h.0 t ts u k e h.1)

pub texts_say_no_other : TextsSayNoOther
texts_say_no_other n t ts u v k e h g = text_says_one_unit t u v (texts_are_said n t ts u k e h) g

pub unread_texts_say_more : UnreadTextsSayMore
unread_texts_say_more n t ts u e h g = by (leb_tells (levels (forest_of_unit u)) n) where
  by : ((nat_le (levels (forest_of_unit u)) n ≡ true) × (levels (forest_of_unit u) ≤ n)) ⊎ ((nat_le (levels (forest_of_unit u)) n ≡ false) × (n < levels (forest_of_unit u))) → n < levels (forest_of_unit u)
  by (inl x) = absurd (no_some u (turned h ∙ units_are_read n ts u (tokens_say t ts u e g) x.1))
  by (inr x) = x.1
