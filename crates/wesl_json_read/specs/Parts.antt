-- What is read of a member, or its fault.
use Rattle.std.specs.Prelude.{◌≡◌, ◌⊎◌, Option, Some, Result, Ok, Err}
use Rattle.wesl_tree_names.specs.declared.errors.Error as error
use Rattle.wesl_tree_names.specs.Path.{Text}
use Rattle.wesl_json_read.specs.Faults.{IsUnder}

-- want of memory, or a fault of what is read
abbrev pub IsMemoryOr : {A : Type 0} → Result A error.Error → error.Error → Type 0
IsMemoryOr read e = (e ≡ error.Memory) ⊎ (read ≡ Err e)

-- the fault of what is read, told of the object that has it at k
abbrev pub IsFaultUnder : {A : Type 0} → Text → Result A error.Error → error.Error → Type 0
IsFaultUnder k read e = (inner : error.Error) × (read ≡ Err inner) × IsUnder k inner e

-- the option is what is read, and there is no fault
abbrev pub IsWhatIsRead : {A : Type 0} → Result A error.Error → Option A → Type 0
IsWhatIsRead {A} read o = (x : A) × (read ≡ Ok x) × (o ≡ Some x)
