-- The faults that the validators answer, each with what it carries.
use Rattle.std.specs.Prelude.{◌≡◌, ◌⊎◌, ◌<◌, length, get_or, ℕ, true, Option, Some, None, [], slice_get, string_bytes}
use Rattle.std.specs.Option.{option_map}
use Rattle.std.specs.List.{Contains}
use Rattle.wesl_tree_names.specs.Path.{Text}
use Rattle.wesl_tree_names.specs.declared.errors.Error as error
use Rattle.wesl_tree_base.specs.declared.faults.ValidateError.{ValidateError}
use Rattle.wesl_tree_base.specs.declared.faults.ValidateError.TheVariants as fault
use Rattle.wesl_tree_names.specs.declared.errors.Diagnostic.{Diagnostic}
use Rattle.wesl_tree_syntax.specs.Unit.{UnitView}
use Rattle.wesl_scope_occurrences.specs.Occurrences.{Occurrence}
use Rattle.wesl_scope_strip.specs.Declarations.{all, declared_in}
use Rattle.wesl_validate_builtins.specs.Builtins.{BuiltinNames}
use Rattle.wesl_validate_rules.specs.Calls.{CallOf, function_with, struct_with}
use Rattle.wesl_validate_rules.specs.Names.{plain_names}
use Rattle.wesl_validate_rules.specs.Valid.{spelling, shape_of, calls_of, Declares, LeadsTo, Reaches, AliasesTo, IsEnd, is_undefined, Fits}

module _ (u : UnitView) where
  -- the name that a declaration declares, if it declares one
  abbrev pub name_of : ℕ → Option Text
  name_of j = option_map (spelling u) (slice_get (declared_in u j) 0)

  -- the same, of the declaration that an identifier lies in
  abbrev pub name_round : Option ℕ → Option Text
  name_round None = None
  name_round (Some j) = name_of j

  -- two of the names are n
  pub record IsDuplicate (n : Text) : Type 0 where
    pub first : ℕ
    pub second : ℕ
    pub before : first < second
    pub inside : second < length (plain_names u)
    pub named : get_or (plain_names u) first [] ≡ n
    pub again : get_or (plain_names u) second [] ≡ n

  -- a declaration of the name n reaches itself, and a last step of that is from one of the name `via`
  pub record IsCycle (n via : Text) : Type 0 where
    pub first : ℕ
    pub last : ℕ
    pub named : spelling u first ≡ n
    pub named_last : spelling u last ≡ via
    pub leads_there : (first ≡ last) ⊎ Reaches u first last
    pub leads_back : LeadsTo u last first

  -- a declaration of the number is a function with so many parameters, or a struct with so many members
  abbrev pub Counts : ℕ → ℕ → Type 0
  Counts e k = (j : ℕ) × Declares u j e × ((shape_of u j ≡ function_with k) ⊎ (shape_of u j ≡ struct_with k))

module _ (u : UnitView) (builtins : BuiltinNames) where
  -- in the declaration of this name, or in one without
  pub record IsUndefined (within : Option Text) (n : Text) : Type 0 where
    pub found : Occurrence ℕ
    pub there : Contains (all u) found
    pub undefined : is_undefined u builtins found ≡ true
    pub named : spelling u found.name ≡ n
    pub round : name_round u found.declaration ≡ within

  -- a call in the declaration of this name, or in one without, that does not fit
  pub record IsMisfit (within : Option Text) (c : CallOf ℕ) : Type 0 where
    pub declaration : ℕ
    pub there : Contains (calls_of u declaration) c
    pub fits_none : Fits u builtins c → ⊥
    pub round : name_of u declaration ≡ within

  -- its aliases lead to a function or a struct, which takes another count
  pub record IsMiscounted (within : Option Text) (n : Text) (expected got : ℕ) : Type 0 where
    pub callee : ℕ
    pub misfit : IsMisfit within (record { callee = callee; arguments = got })
    pub last : ℕ
    pub ends : AliasesTo u callee last
    pub counts : Counts u last expected
    pub named : spelling u last ≡ n

  -- its aliases lead to no function and no struct
  pub record IsNotCallable (within : Option Text) (n : Text) : Type 0 where
    pub call : CallOf ℕ
    pub misfit : IsMisfit within call
    pub last : ℕ
    pub ends : AliasesTo u call.callee last
    pub is_end : IsEnd u last
    pub named : spelling u last ≡ n
    pub counts_none : (e k : ℕ) → AliasesTo u call.callee e → Counts u e k → ⊥

  -- a fault that `validate_wesl` may tell, in the declaration of this name, or in one without
  abbrev pub IsWeslFault : Option Text → ValidateError → Type 0
  IsWeslFault within (fault.UndefinedSymbol n) = IsUndefined within (string_bytes n)
  IsWeslFault within (fault.Duplicate n) = IsDuplicate u (string_bytes n) × (within ≡ Some (string_bytes n))
  IsWeslFault within (fault.Cycle n via) = IsCycle u (string_bytes n) (string_bytes via) × (within ≡ Some (string_bytes n))
  IsWeslFault within (fault.ParamCount n expected got) = ⊥
  IsWeslFault within (fault.NotCallable n) = ⊥

  -- the same of `validate_wgsl`, which tells faults of calls too
  abbrev pub IsWgslFault : Option Text → ValidateError → Type 0
  IsWgslFault within (fault.ParamCount n expected got) = IsMiscounted within (string_bytes n) expected got
  IsWgslFault within (fault.NotCallable n) = IsNotCallable within (string_bytes n)
  IsWgslFault within e = IsWeslFault within e

-- the error is such a fault in the declaration of this name, or in one without, or that memory was refused
abbrev pub TellsAsError : (Option Text → ValidateError → Type 0) → Option Text → error.Error → Type 0
TellsAsError IsFault within (error.Validate e) = IsFault within e
TellsAsError IsFault within error.Memory = Unit {0}
TellsAsError IsFault within _ = ⊥

-- a diagnostic tells such a fault and the declaration that holds it, or that memory was refused, and nothing else
pub record IsRefusal (IsFault : Option Text → ValidateError → Type 0) (d : Diagnostic) : Type 0 where
  pub tells : TellsAsError IsFault (option_map string_bytes d.declaration) d.error
  pub no_module : d.«module» ≡ None
  pub no_display : d.display ≡ None
  pub no_span : d.span ≡ None
  pub no_source : d.source ≡ None

-- the diagnostic is one with which `validate_wesl` may refuse the module
abbrev pub RefusesWesl : UnitView → BuiltinNames → Diagnostic → Type 0
RefusesWesl u builtins = IsRefusal (IsWeslFault u builtins)

-- the diagnostic is one with which `validate_wgsl` may refuse the module
abbrev pub RefusesWgsl : UnitView → BuiltinNames → Diagnostic → Type 0
RefusesWgsl u builtins = IsRefusal (IsWgslFault u builtins)
