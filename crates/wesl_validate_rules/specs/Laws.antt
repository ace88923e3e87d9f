-- Laws of the definitions, as functions of the crate cite them.
use Rattle.std.specs.Prelude.{◌↔◌, ℕ, Option}
use Rattle.std.specs.List.{Contains}
use Rattle.wesl_tree_names.specs.Path.{Text}
use Rattle.wesl_tree_base.specs.declared.faults.ValidateError.{ValidateError}
use Rattle.wesl_tree_syntax.specs.Unit.{UnitView}
use Rattle.wesl_validate_builtins.specs.Builtins.{BuiltinNames}
use Rattle.wesl_validate_rules.specs.Calls.{CallOf}
use Rattle.wesl_validate_rules.specs.Valid.{spelling, calls_of, LeadsTo, AliasesTo, IsEnd, Fits, IsAcyclic, IsValidWesl, IsValidWgsl}
use Rattle.wesl_validate_rules.specs.Graphs.{Graph, Leads, IsGrounded, IsRing}
use Rattle.wesl_validate_rules.specs.Faults.{IsUndefined, IsDuplicate, IsCycle, IsMiscounted, IsNotCallable, IsWeslFault, IsWgslFault}

-- a module with a fault that `validate_wesl` may tell is not valid in WESL
abbrev pub WeslFaultsRefute : Type 0
WeslFaultsRefute = (u : UnitView) (b : BuiltinNames) (within : Option Text) (e : ValidateError) → IsWeslFault u b within e → IsValidWesl u b → ⊥

-- a module with a fault that `validate_wgsl` may tell is not valid in WGSL
abbrev pub WgslFaultsRefute : Type 0
WgslFaultsRefute = (u : UnitView) (b : BuiltinNames) (within : Option Text) (e : ValidateError) → IsWgslFault u b within e → IsValidWgsl u b → ⊥

-- a module without a fault is valid
abbrev pub FaultlessIsValid : Type 0
FaultlessIsValid = (u : UnitView) (b : BuiltinNames)
    → ((within : Option Text) (n : Text) → IsUndefined u b within n → ⊥)
    → ((n : Text) → IsDuplicate u n → ⊥)
    → ((n via : Text) → IsCycle u n via → ⊥)
    → IsValidWesl u b

-- and no call misfits where there is no fault of a call
abbrev pub FaultlessFits : Type 0
FaultlessFits = (u : UnitView) (b : BuiltinNames)
    → ((within : Option Text) (n : Text) (expected got : ℕ) → IsMiscounted u b within n expected got → ⊥)
    → ((within : Option Text) (n : Text) → IsNotCallable u b within n → ⊥)
    → (j e : ℕ) (c : CallOf ℕ) → Contains (calls_of u j) c → AliasesTo u c.callee e → IsEnd u e → (Fits u b c → ⊥) → ⊥

-- a graph whose edges are the steps from number to number
abbrev pub IsGraphOf : UnitView → Graph → Type 0
IsGraphOf u g = (a b : ℕ) → Leads g a b ↔ LeadsTo u a b

-- where every path of the graph ends, no declaration reaches itself
abbrev pub GroundedIsAcyclic : Type 0
GroundedIsAcyclic = (u : UnitView) (g : Graph) → IsGraphOf u g → ((a : ℕ) → IsGrounded g a) → IsAcyclic u

-- and a ring of the graph is one of declarations
abbrev pub RingIsCycle : Type 0
RingIsCycle = (u : UnitView) (g : Graph) → IsGraphOf u g → (first last : ℕ) → IsRing g first last → IsCycle u (spelling u first) (spelling u last)
