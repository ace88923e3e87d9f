use Rattle.std.proofs.Common.{◌≡◌, drop}
use Rattle.std.specs.List.{list_any}
use Rattle.wesl_text_homes.specs.Homes.{is_other}
use Rattle.wesl_text_homes.proofs.libraries.has_other.Given as goal

abbrev pub invariant-loop-other : goal.invariant-loop-other
invariant-loop-other l = list_any (is_other l.chain) l.chains ≡ list_any (is_other l.chain) (drop l.other-index l.chains)
