use Rattle.std.proofs.Common.{map, take}
use Rattle.wesl_scope_meanings.specs.Spellings.{AreSpellings}
use Rattle.wesl_scope_meanings.proofs.alike.number_names.Given as goal

abbrev pub invariant-loop-i : goal.invariant-loop-i
invariant-loop-i l = AreSpellings (take l.i l.names) (map (λ k. k.now) l.texts.keys) l.alike.items
