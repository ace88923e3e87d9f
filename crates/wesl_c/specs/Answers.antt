-- What a C caller is told of the bytes of a bundle.
use Rattle.std.specs.Prelude.{◌≡◌, ◌++◌, ℕ, List, take, drop, length, Ok}
use Rattle.wesl.specs.declared.program.Outcome.{Outcome}
use Rattle.wesl.specs.declared.program.Outcome.TheVariants.{Linked, Refused}
use Rattle.wesl.specs.Run.{IsLine, status_of}
use Rattle.wesl_text_program.specs.Line.{IsTextFaultLine, IsTextLine}

-- a line over the beginning of a buffer, as far as there is room; what lies behind it stays
abbrev pub written_over : List ℕ → List ℕ → List ℕ
written_over line buffer = take (length buffer) line ++ drop (length line) buffer

-- of the line that the bytes have, the outcome's status, the length, and as much as the buffer has room for
abbrev pub FillsBuffer : List ℕ → ℕ → ℕ → List ℕ → List ℕ → Type 0
FillsBuffer bytes status needed old new =
    (outcome : Outcome) × (line : List ℕ)
    × IsLine outcome bytes line × (status ≡ status_of (Ok outcome)) × (needed ≡ length line) × (new ≡ written_over line old)

-- the line that an outcome has for the bytes of a bundle of texts
abbrev pub IsTextOutcome : Outcome → List ℕ → List ℕ → Type 0
IsTextOutcome Linked bytes line = IsTextLine bytes line
IsTextOutcome Refused bytes line = IsTextFaultLine bytes line

-- the same of the line that the bytes have as a bundle of texts
abbrev pub FillsWithText : List ℕ → ℕ → ℕ → List ℕ → List ℕ → Type 0
FillsWithText bytes status needed old new =
    (outcome : Outcome) × (line : List ℕ)
    × IsTextOutcome outcome bytes line × (status ≡ status_of (Ok outcome)) × (needed ≡ length line) × (new ≡ written_over line old)
