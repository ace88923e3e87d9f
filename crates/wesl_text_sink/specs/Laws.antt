-- What is promised of text in which tokens are laid out.
use Rattle.std.specs.Prelude.{◌≡◌, ◌↔◌, ◌⊎◌, IsUtf8, List, [], true, false, Some, None, Result, Ok, Err, string_bytes}
use Rattle.std.proofs.Common.{String, Global}
use Rattle.wesl_tree_names.specs.Path.{Text}
use Rattle.wesl_tree_syntax.specs.Unit.{UnitOf}
use Rattle.wesl_text_tokens.specs.Tokens.{tokens}
use Rattle.wesl_text_form.specs.Says.{IsWritable, are_read_as_meant, spelling}
use Rattle.wesl_text_form.specs.Slots.{Slot, fewest}
use Rattle.wesl_text_form.specs.Spelling.{slots}
use Rattle.wesl_text_sound.specs.Laws.{AreTokens}
use Rattle.wesl_text_sink.specs.Layout.{Laid, are_laid, laid_tokens, layout}
use Rattle.wesl_text_sink.specs.Filling.{Blanked, Fills, Shows}
use Rattle.wesl_text_sink.specs.Finished.{Finishes, IsMisread, IsRead}
use Rattle.wesl_text_sink.specs.Words.{is_limit}
use Rattle.wesl_text_sink.specs.declared.fault.PrintFault.{PrintFault}
use Rattle.wesl_text_sink.specs.declared.sink.TextSink.{TextSink}

-- a text in which tokens are laid out, perhaps with blanks behind it, is read as these tokens exactly if they are read as
-- meant where they stand apart
abbrev pub LayoutIsRead : Type 0
LayoutIsRead =
    (ls : List Laid) (t : Text) → are_laid None ls ≡ true → AreTokens (laid_tokens ls) → Blanked (layout ls) t
    → (tokens t ≡ Some (laid_tokens ls)) ↔ (are_read_as_meant (laid_tokens ls) ≡ true)

-- what is handed out is read as meant
abbrev pub ReadIsMeant : Type 0
ReadIsMeant =
    (ls : List Laid) (t : Text) → are_laid None ls ≡ true → IsUtf8 t → IsRead ls t
    → are_read_as_meant (laid_tokens ls) ≡ true

-- what is refused as not meant is not
abbrev pub MisreadIsNotMeant : Type 0
MisreadIsNotMeant =
    (ls : List Laid) → are_laid None ls ≡ true → AreTokens (laid_tokens ls) → IsMisread ls
    → are_read_as_meant (laid_tokens ls) ≡ false

-- the tokens that are printed for a unit are such: its names are words, and its numbers are numbers
abbrev pub SlotsAreTokens : Type 0
SlotsAreTokens = (u : UnitOf Text) (ss : List Slot) → slots u ≡ Some ss → AreTokens (fewest ss)

-- What is handed out where a unit was printed: a text whose tokens are the spelling of the unit; or a fault, which is a limit
-- unless no text says the unit.
abbrev pub IsPrinted : UnitOf Text → Result (String Global) PrintFault → Type 0
IsPrinted u (Ok t) = (IsWritable u ≡ true) × (tokens (string_bytes t) ≡ spelling u)
IsPrinted u (Err e) = (is_limit e ≡ true) ⊎ (IsWritable u ≡ false)

-- it is so of each sink that was empty and that the slots of the unit were given to
abbrev pub UnitsArePrinted : Type 0
UnitsArePrinted =
    (u : UnitOf Text) (old new : TextSink) (r : Result (String Global) PrintFault) → Shows old [] → old.fault ≡ None
    → Fills (slots u) old new → Finishes new r → IsPrinted u r
