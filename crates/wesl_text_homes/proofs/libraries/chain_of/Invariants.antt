use Rattle.std.proofs.Common.{◌≡◌, string_bytes, drop, bytes_eq}
use Rattle.std.specs.List.{find}
use Rattle.wesl_text_homes.proofs.libraries.chain_of.Given as goal

abbrev pub invariant-loop-chain : goal.invariant-loop-chain
invariant-loop-chain l = find (λ c. bytes_eq (string_bytes c.name) l.name) l.chains ≡ find (λ c. bytes_eq (string_bytes c.name) l.name) (drop l.chain-index l.chains)
