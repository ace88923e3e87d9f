-- What the validators find in a module, each with the names that tell it.
use Rattle.std.specs.Prelude.{ℕ, Bool, true, false, ◌&&◌, ◌==◌, bytes_eq, Option, Some, None}
use Rattle.wesl_tree_names.specs.Path.{Text}
use Rattle.wesl_tree_syntax.specs.Unit.{UnitView}
use Rattle.wesl_validate_builtins.specs.Builtins.{BuiltinNames}
use Rattle.wesl_validate_rules.specs.Faults.{IsUndefined, IsDuplicate, IsCycle, IsMiscounted, IsNotCallable}

-- a fault that is found, with the names that tell it
pub data Finding : Type 0 where
  -- a name that is not defined, in the declaration of a name, or in one without
  undefined : Option Text → Text → Finding
  -- a name that two imports or declarations without a condition have
  duplicate : Text → Finding
  -- the name of a declaration that reaches itself, and that of the last one on the way
  cycle : Text → Text → Finding
  -- in the declaration of a name, or in one without, a call of a function or a struct: its name, and how many arguments it
  -- takes and the call has
  miscounted : Option Text → Text → ℕ → ℕ → Finding
  -- there a call of what cannot be called, by its name
  not_callable : Option Text → Text → Finding

-- whether two declarations have one name, or both have none
abbrev pub same_holder : Option Text → Option Text → Bool
same_holder None None = true
same_holder (Some n) (Some m) = bytes_eq n m
same_holder _ _ = false

-- whether two findings are one: of one kind, with the same names and counts, in declarations of one name, or in ones without
abbrev pub same_finding : Finding → Finding → Bool
same_finding (undefined d n) (undefined e m) = same_holder d e && bytes_eq n m
same_finding (duplicate n) (duplicate m) = bytes_eq n m
same_finding (cycle n v) (cycle m w) = bytes_eq n m && bytes_eq v w
same_finding (miscounted d n x g) (miscounted e m y h) = same_holder d e && (bytes_eq n m && (x == y && g == h))
same_finding (not_callable d n) (not_callable e m) = same_holder d e && bytes_eq n m
same_finding _ _ = false

-- the name of the declaration that holds it: of names that are declared again and of rings the name that they carry first
abbrev pub holder : Finding → Option Text
holder (undefined d n) = d
holder (duplicate n) = Some n
holder (cycle n v) = Some n
holder (miscounted d n x g) = d
holder (not_callable d n) = d

module _ (u : UnitView) (b : BuiltinNames) where
  -- it is a fault of the module, as `validate_wesl` may tell it
  abbrev pub IsFound : Finding → Type 0
  IsFound (undefined d n) = IsUndefined u b d n
  IsFound (duplicate n) = IsDuplicate u n
  IsFound (cycle n v) = IsCycle u n v
  IsFound (miscounted d n x g) = ⊥
  IsFound (not_callable d n) = ⊥

  -- and as `validate_wgsl` may
  abbrev pub IsFoundWgsl : Finding → Type 0
  IsFoundWgsl (miscounted d n x g) = IsMiscounted u b d n x g
  IsFoundWgsl (not_callable d n) = IsNotCallable u b d n
  IsFoundWgsl f = IsFound f
