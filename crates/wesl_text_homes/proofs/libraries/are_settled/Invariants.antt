use Rattle.std.proofs.Common.{◌≡◌, drop}
use Rattle.std.specs.List.{list_all}
use Rattle.wesl_text_homes.specs.Homes.{is_settled}
use Rattle.wesl_text_homes.proofs.libraries.are_settled.Given as goal

abbrev pub invariant-loop-chain : goal.invariant-loop-chain
invariant-loop-chain l = list_all (is_settled l.chains) l.chains ≡ list_all (is_settled l.chains) (drop l.chain-index l.chains)
