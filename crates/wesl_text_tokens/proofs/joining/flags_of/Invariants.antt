use Rattle.std.proofs.Common.{◌≡◌, length, take}
use Rattle.wesl_text_tokens.specs.Joining.{FlagsOf}
use Rattle.wesl_text_tokens.proofs.joining.flags_of.Given as goal

abbrev pub invariant-loop-place : goal.invariant-loop-place
invariant-loop-place l = record {
  long : length l.flags.items ≡ l.len;
  flags : FlagsOf (take l.place-index l.places) l.flags.items;
}
