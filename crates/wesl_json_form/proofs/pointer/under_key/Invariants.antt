use Rattle.std.proofs.Common.{◌≡◌, ◌∷◌, flat_map, string_bytes}
use Rattle.wesl_json_form.specs.Pointer.{escaped_char}
use Rattle.wesl_json_form.proofs.pointer.under_key.Given as goal

abbrev pub invariant-loop-c : goal.invariant-loop-c
invariant-loop-c l = string_bytes l.text ≡ 47 ∷ flat_map escaped_char l.yielded
