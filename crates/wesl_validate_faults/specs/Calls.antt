-- All faults of a module that `validate_wgsl` may tell, in an order that is fixed.
use Rattle.std.specs.Prelude.{◌≡◌, ℕ, List, ◌++◌, map}
use Rattle.wesl_tree_syntax.specs.Unit.{UnitView}
use Rattle.wesl_validate_builtins.specs.Builtins.{BuiltinNames}
use Rattle.wesl_validate_rules.specs.Faults.{name_of}
use Rattle.wesl_validate_rules.specs.Valid.{spelling}
use Rattle.wesl_validate_calls.specs.Verdicts.{AreMisfits}
use Rattle.wesl_validate_calls.specs.declared.misfit.Misfit.{Misfit}
use Rattle.wesl_validate_calls.specs.declared.misfit.Misfit.TheVariants as misfit
use Rattle.wesl_validate_faults.specs.Findings.{Finding, miscounted, not_callable}
use Rattle.wesl_validate_faults.specs.Listed.{AreFindings, each_once}

-- a misfit of a call in that declaration, by names
abbrev pub misfit_told : UnitView → ℕ → Misfit → Finding
misfit_told u j (misfit.ParamCount e k got) = miscounted (name_of u j) (spelling u e) k got
misfit_told u j (misfit.NotCallable e) = not_callable (name_of u j) (spelling u e)

module _ (u : UnitView) (b : BuiltinNames) where
  -- the calls that fit nothing, in the order of their declarations, each finding once
  pub record AreCallFindings (fs : List Finding) : Type 0 where
    pub misfits : List (ℕ × Misfit)
    pub are_misfits : AreMisfits u b misfits
    pub listed : fs ≡ each_once (map (λ p. misfit_told u p.0 p.1) misfits)

  -- all findings: first those of `validate_wesl`, then those of calls
  pub record AreFindingsWgsl (fs : List Finding) : Type 0 where
    pub names : List Finding
    pub calls : List Finding
    pub are_names : AreFindings u b names
    pub are_calls : AreCallFindings calls
    pub listed : fs ≡ names ++ calls
