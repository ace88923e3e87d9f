use Rattle.std.proofs.Common.{◌≡◌, drop}
use Rattle.wesl_example_traits.specs.Hash.{hash_text}
use Rattle.wesl_example_traits.proofs.hash.hash_name.Given as goal

abbrev pub invariant-loop-byte : goal.invariant-loop-byte
invariant-loop-byte l = hash_text l.number (drop l.byte-index l.byte-items) ≡ hash_text l.start l.byte-items
