-- What is writable is so under other names.
use Rattle.std.proofs.Common.{◌≡◌, Bool, true, false, if◌then◌else◌, List, [], ◌∷◌, Option, Some, None, option_and_then, is_some, refl, ap, ap₂, ◌∙◌}
use Rattle.wesl_text_tokens.specs.Tokens.{Token, tokens_of_bits}
use Rattle.wesl_text_form.specs.Slots.{Slot, same_token, fewest}
use Rattle.wesl_text_form.specs.Spelling.{Slots, slots, slots_as, unit_row}
use Rattle.wesl_text_form.specs.Says.{are_read_as_meant, bits_apart, same_tokens, as_meant}
use Rattle.wesl_text_reading.proofs.Filled.{no_true, same_is}
use Rattle.wesl_text_writable.proofs.MadeApart.{AreMeant, meant_apart}
use Rattle.wesl_text_respell.specs.Laws.{RespelledUnits, RespelledTrees}
use Rattle.wesl_text_respell.proofs.Related.{Follows}
use Rattle.wesl_text_respell.proofs.Follow.{follow}
use Rattle.wesl_text_respell.proofs.Meant.{meant_like, apart_meant}
use Rattle.std.proofs.lemmas.Bool.{and_parts}
use Rattle.wesl_text_writable.proofs.Writable.{same_all}

-- ---- tokens that are read as meant

tokens_are : (ts us : List Token) → same_tokens ts us ≡ true → ts ≡ us
tokens_are [] [] h = refl
tokens_are [] (u ∷ us) h = absurd (no_true h)
tokens_are (t ∷ ts) [] h = absurd (no_true h)
tokens_are (t ∷ ts) (u ∷ us) h =
    let x : (same_token t u ≡ true) × (same_tokens ts us ≡ true) = and_parts (same_token t u) (same_tokens ts us) h in
    ap₂ (λ a b. a ∷ b) (same_is t u x.0) (tokens_are ts us x.1)

pub meant_of_read : (ts : List Token) → are_read_as_meant ts ≡ true → AreMeant ts
meant_of_read ts h = apart_meant ts (tokens_are (tokens_of_bits (bits_apart ts)) ts h)

pub read_of_meant : (ts : List Token) → AreMeant ts → are_read_as_meant ts ≡ true
read_of_meant ts a = ap (λ z. same_tokens z ts) (meant_apart ts a) ∙ same_all ts

-- ---- slots

-- whether there are slots whose tokens are read as meant
abbrev pub are_writable : Slots → Bool
are_writable a = is_some (option_and_then as_meant a)

pub meant_of_writable : (ss : List Slot) → are_writable (Some ss) ≡ true → AreMeant (fewest ss)
meant_of_writable ss h = by (are_read_as_meant (fewest ss)) (meant_of_read (fewest ss)) h where
  by : (b : Bool) → (b ≡ true → AreMeant (fewest ss)) → (let o : Option (List Token) = if b then Some (fewest ss) else None in is_some o) ≡ true → AreMeant (fewest ss)
  by true f h = f refl
  by false f h = absurd (no_true h)

pub writable_of_meant : (ss : List Slot) → AreMeant (fewest ss) → are_writable (Some ss) ≡ true
writable_of_meant ss a = ap (λ (b : Bool). let o : Option (List Token) = if b then Some (fewest ss) else None in is_some o) (read_of_meant (fewest ss) a)

follows_writable : (a b : Slots) → Follows a b → are_writable a ≡ true → are_writable b ≡ true
follows_writable None b p h = absurd (no_true h)
follows_writable (Some ss) None p h = absurd p
follows_writable (Some ss) (Some us) p h = writable_of_meant us (meant_like p (meant_of_writable ss h))

pub respelled_units : RespelledUnits
respelled_units u v r h = follows_writable (slots u) (slots v) ((follow r).row unit_row refl) h

pub respelled_trees : RespelledTrees
respelled_trees s t w r h = follows_writable (slots_as s t) (slots_as s w) ((follow r).first s) h
