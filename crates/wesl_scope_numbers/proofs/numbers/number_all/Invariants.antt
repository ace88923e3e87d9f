use Rattle.std.proofs.Common.{◌≡◌, ◌++◌, map, drop}
use Rattle.wesl_scope_numbers.specs.Canonical.{canonical, canonical_from}
use Rattle.wesl_scope_meanings.specs.Keys.{flat}
use Rattle.wesl_scope_numbers.specs.Numbering.{distinct, distinct_from}
use Rattle.wesl_scope_numbers.proofs.numbers.number_all.Given as goal

abbrev pub invariant-loop-key : goal.invariant-loop-key
invariant-loop-key l = record {
  given : l.numbers.items ++ canonical_from (map flat l.seen.keys) (map flat (drop l.key-index l.keys)) ≡ canonical (map flat l.keys);
  seen : distinct_from (map flat l.seen.keys) (map flat (drop l.key-index l.keys)) ≡ distinct (map flat l.keys);
}
