-- Faults of texts.
use Rattle.std.specs.Prelude.{Bool, true, false}
use Rattle.wesl_text_tokens.specs.declared.fault.TokenFault.{TokenFault}
use Rattle.wesl_text_tokens.specs.declared.fault.TokenFault.TheVariants as told
use Rattle.wesl_text.specs.declared.fault.TextFault.{TextFault}
use Rattle.wesl_text.specs.declared.fault.TextFault.TheVariants as faults

-- the fault of a text that has no tokens
abbrev pub fault_of_tokens : TokenFault → TextFault
fault_of_tokens told.TooLong = faults.TooLong
fault_of_tokens told.Memory = faults.Memory
fault_of_tokens f = faults.NoToken f

-- whether a token was not the one that should have stood there
abbrev pub is_unexpected : TextFault → Bool
is_unexpected (faults.Unexpected place expected found) = true
is_unexpected f = false
