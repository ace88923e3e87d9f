-- Words have neither dots nor slashes.
use Rattle.std.proofs.Common.{◌≡◌, true, List, [], ◌∷◌, Option, Some, None, refl, sym as turned, subst}
use Rattle.wesl_tree_base.specs.Pieces.{slash}
use Rattle.wesl_tree_names.specs.Path.{Text}
use Rattle.wesl_text_tokens.specs.Tokens.{Token, name, tokens}
use Rattle.wesl_text_sound.proofs.EachToken.{lacks, HasNoSign, EachToken}
use Rattle.wesl_text_sound.proofs.Signless.{names_have_no_signs}
use Rattle.wesl_text_form.specs.Names.{is_alone, is_word}
use Rattle.wesl_text_form.specs.Spelling.{dot}
use Rattle.wesl_text_reading.proofs.Filled.{no_true, same_is}

pub word_lacks : (t : Text) → is_word t ≡ true → (lacks dot t ≡ true) × (lacks slash t ≡ true)
word_lacks t h = by (tokens t) refl h where
  by : (o : Option (List Token)) → tokens t ≡ o → is_alone (name t) o ≡ true → (lacks dot t ≡ true) × (lacks slash t ≡ true)
  by (Some (u ∷ [])) e g = (subst (λ z. EachToken HasNoSign (z ∷ [])) (turned (same_is (name t) u g)) (names_have_no_signs t (u ∷ []) e)).0
  by (Some []) e g = absurd (no_true g)
  by (Some (u ∷ v ∷ vs)) e g = absurd (no_true g)
  by None e g = absurd (no_true g)
