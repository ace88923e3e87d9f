-- Calls that fit nothing of what their aliases end in.
use Rattle.std.specs.Prelude.{◌≡◌, ℕ, List}
use Rattle.std.specs.List.{Contains}
use Rattle.wesl_tree_syntax.specs.Unit.{UnitView}
use Rattle.wesl_validate_builtins.specs.Builtins.{BuiltinNames}
use Rattle.wesl_validate_rules.specs.Calls.{CallOf}
use Rattle.wesl_validate_rules.specs.Valid.{calls_of, AliasesTo, IsEnd, Fits}
use Rattle.wesl_validate_rules.specs.Faults.{Counts}
use Rattle.wesl_validate_calls.specs.declared.misfit.Misfit.{Misfit}
use Rattle.wesl_validate_calls.specs.declared.misfit.Misfit.TheVariants as misfit

module _ (u : UnitView) (b : BuiltinNames) where
  -- The call fits nothing. A function or a struct where its aliases end takes another count; or none is there, and
  -- they end at that number.
  abbrev pub Misses : CallOf ℕ → Misfit → Type 0
  Misses c (misfit.ParamCount e k got) = (Fits u b c → ⊥) × AliasesTo u c.callee e × Counts u e k × (c.arguments ≡ got)
  Misses c (misfit.NotCallable e) = (Fits u b c → ⊥) × AliasesTo u c.callee e × IsEnd u e × ((d k : ℕ) → AliasesTo u c.callee d → Counts u d k → ⊥)

  -- it fits if its aliases end anywhere
  abbrev pub Passes : CallOf ℕ → Type 0
  Passes c = (e : ℕ) → AliasesTo u c.callee e → IsEnd u e → Fits u b c

  -- one of these calls misses so
  abbrev pub MissesAmong : List (CallOf ℕ) → Misfit → Type 0
  MissesAmong cs m = (c : CallOf ℕ) × Contains cs c × Misses c m

  -- one in this declaration does
  abbrev pub MissesIn : ℕ → Misfit → Type 0
  MissesIn j m = MissesAmong (calls_of u j) m
