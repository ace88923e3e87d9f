use Rattle.std.proofs.Common.{◌≡◌, drop}
use Rattle.std.specs.List.{list_any}
use Rattle.wesl_link_split.proofs.sight.is_any_split.Given as goal

abbrev pub invariant-loop-one : goal.invariant-loop-one
invariant-loop-one l = list_any (λ f. f.is_split) l.facts ≡ list_any (λ f. f.is_split) (drop l.one-index l.facts)
