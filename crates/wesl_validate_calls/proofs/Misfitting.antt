-- A call that misses is a fault.
use Rattle.std.proofs.Common.{◌≡◌, ℕ, sym, ◌∙◌, subst}
use Rattle.std.specs.Prelude.{Option, Some, None, IfSome}
use Rattle.std.specs.List.{Contains}
use Rattle.wesl_tree_names.specs.Path.{Text}
use Rattle.wesl_tree_base.specs.declared.faults.ValidateError.{ValidateError}
use Rattle.wesl_tree_base.specs.declared.faults.ValidateError.TheVariants as fault
use Rattle.wesl_tree_syntax.specs.Unit.{UnitView}
use Rattle.wesl_validate_builtins.specs.Builtins.{BuiltinNames}
use Rattle.wesl_validate_rules.specs.Calls.{CallOf}
use Rattle.wesl_validate_rules.specs.Valid.{calls_of, Fits}
use Rattle.wesl_validate_rules.specs.Faults.{name_of, Counts, IsMisfit, IsWgslFault}
use Rattle.wesl_validate_calls.specs.Misfits.{MissesIn}
use Rattle.wesl_validate_calls.specs.declared.misfit.Misfit.{Misfit}
use Rattle.wesl_validate_calls.specs.declared.misfit.Misfit.TheVariants as misfit
use Rattle.wesl_validate_calls.specs.CallFaults.{TellsCall, TellsMisfit}

module _ (u : UnitView) (b : BuiltinNames) (within : Option Text) (j : ℕ) (round : name_of u j ≡ within) where
  misfit_of : (c : CallOf ℕ) → Contains (calls_of u j) c → (Fits u b c → ⊥) → IsMisfit u b within c
  misfit_of c there none = record { declaration = j; there = there; fits_none = none; round = round }

  pub is_fault : (m : Misfit) (e : ValidateError) → MissesIn u b j m → TellsMisfit u.names m e → TellsCall u b within e
  is_fault (misfit.ParamCount i k g) (fault.ParamCount n x y) (c, there, (none, ends, counts, got)) (name, expected, given) = record {
    callee = c.callee;
    misfit = subst (λ a. IsMisfit u b within (record { callee = c.callee; arguments = a })) (got ∙ sym given) (misfit_of c there none);
    last = i;
    ends = ends;
    counts = subst (Counts u i) (sym expected) counts;
    named = sym name;
  }
  is_fault (misfit.NotCallable i) (fault.NotCallable n) (c, there, (none, ends, is_end, others)) name = record {
    call = c;
    misfit = misfit_of c there none;
    last = i;
    ends = ends;
    is_end = is_end;
    named = sym name;
    counts_none = others;
  }
  is_fault (misfit.ParamCount i k g) (fault.UndefinedSymbol n) s t = absurd t
  is_fault (misfit.ParamCount i k g) (fault.NotCallable n) s t = absurd t
  is_fault (misfit.ParamCount i k g) (fault.Duplicate n) s t = absurd t
  is_fault (misfit.ParamCount i k g) (fault.Cycle n via) s t = absurd t
  is_fault (misfit.NotCallable i) (fault.UndefinedSymbol n) s t = absurd t
  is_fault (misfit.NotCallable i) (fault.ParamCount n x y) s t = absurd t
  is_fault (misfit.NotCallable i) (fault.Duplicate n) s t = absurd t
  is_fault (misfit.NotCallable i) (fault.Cycle n via) s t = absurd t

-- the fault of a call is one of WGSL
pub call_of_wgsl : (u : UnitView) (b : BuiltinNames) (within : Option Text) (e : ValidateError) → TellsCall u b within e → IsWgslFault u b within e
call_of_wgsl u b within (fault.ParamCount n expected got) h = h
call_of_wgsl u b within (fault.NotCallable n) h = h
call_of_wgsl u b within (fault.UndefinedSymbol n) h = absurd h
call_of_wgsl u b within (fault.Duplicate n) h = absurd h
call_of_wgsl u b within (fault.Cycle n via) h = absurd h

-- what is so of what is there
pub some_of : {X : Type 0} (r : Option X) (P : X → Type 0) (x : X) → r ≡ Some x → IfSome r P → P x
some_of (Some y) P x e h = let same : y ≡ x = cc in subst P same h
some_of None P x e h = absurd (cc)
