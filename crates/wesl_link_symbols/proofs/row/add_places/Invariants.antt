use Rattle.std.proofs.Common.{◌≡◌, map, take}
use Rattle.wesl_link_symbols.proofs.row.add_places.Given as goal

abbrev pub invariant-loop-import : goal.invariant-loop-import
invariant-loop-import l = l.places.items ≡ map (λ i. i.place) (take l.import-index l.imports)
