use Rattle.wesl_link_flaws.proofs.Placing.{FirstPlaced}
use Rattle.wesl_link_flaws.proofs.given.place_all.Given as goal

abbrev pub invariant-loop-index : goal.invariant-loop-index
invariant-loop-index l = FirstPlaced l.tables l.index l.places.entries
