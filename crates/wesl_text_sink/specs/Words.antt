-- What is found out of a text that is to be a word, a name or a number.
use Rattle.std.specs.Prelude.{◌≡◌, ℕ, ◌==◌, ◌||◌, ◌&&◌, [], ◌∷◌, Bool, true, false, Option, Some, None, Result, Ok, Err}
use Rattle.std.specs.List.{list_all}
use Rattle.wesl_tree_names.specs.Path.{Text}
use Rattle.wesl_text_tokens.specs.Characters.{is_digit, is_letter}
use Rattle.wesl_text_sink.specs.declared.fault.PrintFault.{PrintFault}
use Rattle.wesl_text_sink.specs.declared.fault.PrintFault.TheVariants as told

-- what a name of ASCII begins with, and what it goes on with
abbrev pub begins_plain : ℕ → Bool
begins_plain c = (c == 95) || is_letter c

abbrev pub is_plain : ℕ → Bool
is_plain c = begins_plain c || is_digit c

-- whether a text is a name of ASCII
abbrev pub is_plain_name : Text → Bool
is_plain_name [] = false
is_plain_name (c ∷ cs) = begins_plain c && list_all is_plain cs

-- whether a fault says nothing of what is printed: memory, or the length of a text
abbrev pub is_limit : PrintFault → Bool
is_limit told.Memory = true
is_limit told.TooLong = true
is_limit _ = false

-- whether a fault is noted that says that what is printed has no text
abbrev pub is_refusal : Option PrintFault → Bool
is_refusal None = false
is_refusal (Some told.Memory) = false
is_refusal (Some told.TooLong) = false
is_refusal (Some _) = true

-- an answer, unless a limit was met
abbrev pub Tells : Result Bool PrintFault → Bool → Type 0
Tells (Ok a) b = a ≡ b
Tells (Err e) b = is_limit e ≡ true
