use Rattle.std.proofs.Common.{◌≡◌, take}
use Rattle.wesl_link_split.specs.Grouped.{places_of}
use Rattle.wesl_link_split.proofs.sight.add_places.Given as goal

abbrev pub invariant-loop-binder : goal.invariant-loop-binder
invariant-loop-binder l = l.places.items ≡ places_of (take l.binder-index l.group)
