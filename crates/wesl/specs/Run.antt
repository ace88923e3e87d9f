-- What a run wrote, of what the reader had, and why it ended.
use Rattle.std.specs.Prelude.{◌≡◌, ℕ, List, take, Option, Some, None, Result, Ok, Err, Bool, true, false}
use Rattle.std.specs.Io.KnownBytes.{Appends}
use Rattle.wesl.specs.declared.program.Outcome.{Outcome}
use Rattle.wesl.specs.declared.program.Outcome.TheVariants.{Linked, Refused}
use Rattle.wesl.specs.declared.program.RunError.{RunError}
use Rattle.wesl.specs.declared.program.RunError.TheVariants.{Input, Output}
use Rattle.wesl_program.specs.Line.{IsAnswerLine, IsFaultLine}

-- the line that an outcome has for these bytes
abbrev pub IsLine : Outcome → List ℕ → List ℕ → Type 0
IsLine Linked bytes line = IsAnswerLine bytes line
IsLine Refused bytes line = IsFaultLine bytes line

-- the reader had these bytes, where its bytes are known
abbrev pub Had : Option (List ℕ) → List ℕ → Type 0
Had None bytes = Unit {0}
Had (Some known) bytes = bytes ≡ known

-- the line of the bytes that the reader had, and no other outcome
abbrev pub IsLineFor : Option (List ℕ) → Outcome → List ℕ → Type 0
IsLineFor had outcome line = (bytes : List ℕ) × Had had bytes × IsLine outcome bytes line

-- the line of the reader's bytes was written, and nothing else
abbrev pub Wrote : Option (List ℕ) → Option (List ℕ) → Option (List ℕ) → Outcome → Type 0
Wrote had old new outcome = (line : List ℕ) × IsLineFor had outcome line × Appends old new line

-- a beginning of that line was written, and nothing else
abbrev pub WroteBeginning : Option (List ℕ) → Option (List ℕ) → Option (List ℕ) → Type 0
WroteBeginning had old new = (outcome : Outcome) × (line : List ℕ) × (n : ℕ) × IsLineFor had outcome line × Appends old new (take n line)

-- it ends with the error of a failed read
abbrev pub ends_by_read : Result Outcome RunError → Bool
ends_by_read (Ok outcome) = false
ends_by_read (Err Input) = true
ends_by_read (Err Output) = false

-- it ends with the error of a write that failed or took no byte
abbrev pub ends_by_write : Result Outcome RunError → Bool
ends_by_write (Ok outcome) = false
ends_by_write (Err Input) = false
ends_by_write (Err Output) = true

-- the status of a program that ends with it
abbrev pub status_of : Result Outcome RunError → ℕ
status_of (Ok Linked) = 0
status_of (Ok Refused) = 1
status_of (Err fault) = 2
