-- What is handed out where all is printed.
use Rattle.std.specs.Prelude.{◌≡◌, ◌⊎◌, ◌-◌, Bool, true, false, List, map, take, drop, Option, Some, None, Result, Ok, Err, string_bytes}
use Rattle.std.proofs.Common.{String, Global}
use Rattle.wesl_tree_names.specs.Path.{Text}
use Rattle.wesl_text_tokens.specs.Tokens.{Token, tokens}
use Rattle.wesl_text_form.specs.Says.{same_tokens}
use Rattle.wesl_text_sink.specs.declared.fault.PrintFault.{PrintFault}
use Rattle.wesl_text_sink.specs.declared.fault.PrintFault.TheVariants as told
use Rattle.wesl_text_sink.specs.declared.kind.Mark.{Mark}
use Rattle.wesl_text_sink.specs.declared.sink.TextSink.{TextSink}
use Rattle.wesl_text_sink.specs.Layout.{Laid, layout, laid_tokens, token_by}
use Rattle.wesl_text_sink.specs.Filling.{Blanked, Shows}
use Rattle.wesl_text_sink.specs.Words.{is_limit}

-- the token that is marked in a text, and all that are
abbrev pub token_at : Text → Mark → Token
token_at t m = token_by m.kind (take (m.end - m.start) (drop m.start t))

abbrev pub tokens_at : Text → List Mark → List Token
tokens_at t ms = map (token_at t) ms

-- whether the tokens that are read are these
abbrev pub are_read : Option (List Token) → List Token → Bool
are_read None ts = false
are_read (Some us) ts = same_tokens us ts

-- whether the tokens of a text are those that are marked in it
abbrev pub is_read_as : Text → List Mark → Bool
is_read_as t ms = are_read (tokens t) (tokens_at t ms)

-- the text is that in which tokens are laid out, perhaps with blanks behind it, and it is read as they are
pub record IsRead (ls : List Laid) (t : Text) : Type 0 where
  pub text : Blanked (layout ls) t
  pub tokens : tokens t ≡ Some (laid_tokens ls)

-- such a text, but it is not read so
pub record IsMisread (ls : List Laid) : Type 0 where
  pub whole : Text
  pub text : Blanked (layout ls) whole
  pub tokens : tokens whole ≡ Some (laid_tokens ls) → ⊥

-- what a finished sink hands out of tokens that are laid out
abbrev pub IsResult : List Laid → Result (String Global) PrintFault → Type 0
IsResult ls (Ok t) = IsRead ls (string_bytes t)
IsResult ls (Err e) = (is_limit e ≡ true) ⊎ ((e ≡ told.NotAsMeant) × IsMisread ls)

-- What is handed out: the first fault, or else the text if it is read as the tokens that were given.
pub record Finishes (s : TextSink) (r : Result (String Global) PrintFault) : Type 0 where
  pub faulty : (f : PrintFault) → s.fault ≡ Some f → r ≡ Err f
  pub result : s.fault ≡ None → (ls : List Laid) → Shows s ls → IsResult ls r
