-- What a text says, and what a fault tells of it.
use Rattle.std.specs.Prelude.{◌≡◌, ◌≤◌, ◌<◌, ◌^◌, ℕ, length, String}
use Rattle.std.specs.Global.{Global}
use Rattle.wesl_tree_names.specs.Path.{Text}
use Rattle.wesl_tree_names.specs.declared.errors.Error.{Error}
use Rattle.wesl_tree_names.specs.declared.errors.Error.TheVariants as error
use Rattle.wesl_tree_syntax.specs.Unit.{UnitOf, forest_of_unit}
use Rattle.wesl_text_tokens.specs.Reading.{IsFaultOf as IsTokenFaultOf}
use Rattle.wesl_text_form.specs.Says.{TextSays, levels}
use Rattle.wesl_text.specs.declared.fault.TextFault.{TextFault}
use Rattle.wesl_text.specs.declared.fault.TextFault.TheVariants as faults

-- the text says no unit of at most so many levels
abbrev pub SaysNone : ℕ → Text → Type 0
SaysNone n t = (u : UnitOf Text) → TextSays t u → n < levels (forest_of_unit u)

-- What a fault tells: which part of the text is no token, or that the tokens say no unit of at most 127 levels, or how long the
-- text is. Want of memory tells nothing.
abbrev pub IsFaultOf : Text → TextFault → Type 0
IsFaultOf t (faults.NoToken f) = IsTokenFaultOf t f × SaysNone 127 t
IsFaultOf t (faults.Unexpected place expected found) = SaysNone 127 t
IsFaultOf t faults.TooLong = 2 ^ 32 ≤ length t
IsFaultOf t faults.Memory = Unit {0}

-- the error that tells a fault
abbrev pub IsToldAs : TextFault → Error → Type 0
IsToldAs f e = (reason : String Global) × (e ≡ error.BadTree reason)

-- the error with which a text is refused that says no unit, or that is too long
abbrev pub IsUnreadable : Text → Error → Type 0
IsUnreadable t e = (f : TextFault) × IsFaultOf t f × IsToldAs f e
