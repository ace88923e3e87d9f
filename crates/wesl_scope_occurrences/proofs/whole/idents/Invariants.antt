use Rattle.std.proofs.Common.{◌≡◌, false, map, take}
use Rattle.wesl_scope_occurrences.proofs.whole.idents.Given as goal

abbrev pub invariant-loop-occurrence : goal.invariant-loop-occurrence
invariant-loop-occurrence l = l.is_refused ≡ false → map (λ i. i.0) l.idents.items ≡ map (λ o. o.ident.0) (take l.occurrence-index l.found)
