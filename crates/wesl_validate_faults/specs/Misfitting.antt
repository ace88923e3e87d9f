-- Each call of a module that fits nothing, with its place (WGSL, "Function Calls" and "Value Constructor Expressions").
use Rattle.std.specs.Prelude.{◌≡◌, ℕ, List, map}
use Rattle.wesl_tree_syntax.specs.Unit.{UnitView, numbers}
use Rattle.wesl_validate_builtins.specs.Builtins.{BuiltinNames}
use Rattle.wesl_validate_misfits.specs.Placed.{ArePlaced}
use Rattle.wesl_validate_misfits.specs.declared.placed.PlacedMisfit.{PlacedMisfit}
use Rattle.wesl_validate_faults.specs.Calls.{misfit_told}
use Rattle.wesl_validate_faults.specs.Findings.{Finding}
use Rattle.wesl_validate_faults.specs.Placed.{placed}

-- a call that fits nothing: how many identifiers of the module come before the name that is called, and what is found there
pub record Misfitting : Type 0 where
  pub place : ℕ
  pub found : Finding

-- that at a place
abbrev pub misfitting_at : ℕ → Finding → Misfitting
misfitting_at p f = record { place = p; found = f }

module _ (u : UnitView) where
  -- the module in which the number of each identifier is its place
  abbrev pub placed_unit : UnitView
  placed_unit = record { names = u.names; imports = (placed u).imports; directives = (placed u).directives; declarations = (placed u).declarations }

  -- a misfit of a call, by names, at its place
  abbrev pub misfitting_by : PlacedMisfit → Misfitting
  misfitting_by m = misfitting_at m.place (misfit_told u m.declaration m.misfit)

  -- the calls that fit nothing, in the order of their declarations, each with its place: a call there is judged as one of the
  -- number that the identifier at this place has
  pub record AreMisfitting (b : BuiltinNames) (ms : List Misfitting) : Type 0 where
    pub misfits : List PlacedMisfit
    pub are_misfits : ArePlaced u b (numbers u) placed_unit misfits
    pub listed : ms ≡ map misfitting_by misfits
