use Rattle.std.proofs.Common.{◌≡◌, drop}
use Rattle.wesl_scope_clashes.specs.Sightings.{first_of}
use Rattle.wesl_scope_clashes.proofs.sightings.first.Given as goal

abbrev pub invariant-loop-sighting : goal.invariant-loop-sighting
invariant-loop-sighting l = first_of l.place l.except l.sightings ≡ first_of l.place l.except (drop l.sighting-index l.sightings)
