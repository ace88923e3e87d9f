use Rattle.std.proofs.Common.{◌≡◌}
use Rattle.wesl_text_mappings.specs.Positions.{position, positions}
use Rattle.wesl_text_mappings.proofs.positions.positions_of.Given as goal

abbrev pub invariant-loop-at : goal.invariant-loop-at
invariant-loop-at l = (l.place ≡ position l.bytes l.at) × (l.places.items ≡ positions l.bytes l.at)
