-- What the faults of tokens tell of a text.
use Rattle.std.proofs.Common.{◌≡◌, true, Option, Some, None, Result, Err, List, ap, sym as turned, ◌∙◌, option_map}
use Rattle.std.specs.Prelude.{chars}
use Rattle.std.specs.Result.{result_ok}
use Rattle.wesl_tree_names.specs.Path.{Text}
use Rattle.wesl_text_tokens.specs.Pieces.{Fault, Piece, bits_of, endless_comment, no_number, nothing_begins, pieces_or_fault}
use Rattle.wesl_text_tokens.specs.Reading.{IsFaultOf as IsTokenFaultOf}
use Rattle.wesl_text_tokens.specs.Tokens.{Token, tokens, tokens_of_bits}
use Rattle.wesl_text_tokens.specs.declared.fault.TokenFault.{TokenFault}
use Rattle.wesl_text_tokens.specs.declared.fault.TokenFault.TheVariants as told
use Rattle.wesl_text.specs.Faults.{fault_of_tokens, is_unexpected}
use Rattle.wesl_text.specs.Said.{IsFaultOf, SaysNone}
use Rattle.wesl_text.specs.declared.fault.TextFault.{TextFault}
use Rattle.wesl_text.specs.declared.fault.TextFault.TheVariants as faults

-- what a text says none is told by a fault that is not want of memory: an unexpected token
pub of_grammar : (t : Text) (f : TextFault) → is_unexpected f ≡ true → SaysNone 127 t → IsFaultOf t f
of_grammar t (faults.NoToken g) h none = let z : ⊥ = Prim.cc h in absurd z
of_grammar t (faults.Unexpected place expected found) h none = none
of_grammar t faults.TooLong h none = let z : ⊥ = Prim.cc h in absurd z
of_grammar t faults.Memory h none = let z : ⊥ = Prim.cc h in absurd z
