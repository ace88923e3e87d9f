-- How the program ends, and what it has written then.
use Rattle.std.specs.Prelude.{◌≡◌, ℕ, Bool, true, false, Option, List}
use Rattle.std.specs.Io.KnownBytes.{Appends}
use Rattle.wesl_program.specs.Streams.{AppendsBeginning}
use Rattle.wesl_explain.specs.declared.telling.Ending.{Ending}
use Rattle.wesl_explain.specs.declared.telling.Ending.TheVariants.{Linked, Refused, Unwritten}

-- the status of the program
abbrev pub status_of : Ending → ℕ
status_of Linked = 0
status_of Refused = 1
status_of Unwritten = 2

-- the text was written whole, and the bundle links or is refused; or a beginning of the text was written
abbrev pub Ends : Bool → List ℕ → Option (List ℕ) → Option (List ℕ) → Ending → Type 0
Ends is_linked text old new Linked = Appends old new text × (is_linked ≡ true)
Ends is_linked text old new Refused = Appends old new text × (is_linked ≡ false)
Ends is_linked text old new Unwritten = AppendsBeginning old new text
