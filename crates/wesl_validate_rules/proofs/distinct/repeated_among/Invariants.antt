use Rattle.std.proofs.Common.{◌≡◌, map, take}
use Rattle.wesl_tree_syntax.specs.Unit.{name_in}
use Rattle.wesl_validate_rules.specs.Twice.{AreApart}
use Rattle.wesl_validate_rules.proofs.distinct.repeated_among.Given as goal

abbrev pub invariant-loop-number : goal.invariant-loop-number
invariant-loop-number l = record {
  seen : map (λ k. k.now) l.seen.keys ≡ map (name_in l.names) (take l.number-index l.numbers.items);
  apart : AreApart (map (name_in l.names) (take l.number-index l.numbers.items));
}
