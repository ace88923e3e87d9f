use Rattle.std.proofs.Common.{◌≡◌, drop, map, string_bytes}
use Rattle.wesl_example_traits.specs.Hash.{hash_texts}
use Rattle.wesl_example_traits.proofs.hash.ByBytesPathHash.hash.Given as goal

abbrev pub invariant-loop-name : goal.invariant-loop-name
invariant-loop-name l = hash_texts l.number (map string_bytes (drop l.name-index l.path.components.items)) ≡ hash_texts 7 (map string_bytes l.path.components.items)
