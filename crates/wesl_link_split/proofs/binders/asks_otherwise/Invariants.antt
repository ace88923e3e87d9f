use Rattle.std.proofs.Common.{◌≡◌, drop}
use Rattle.std.specs.Prelude.{not}
use Rattle.std.specs.List.{list_any}
use Rattle.wesl_link_split.specs.Grouped.{ids}
use Rattle.wesl_link_split.specs.Split.{same_reference}
use Rattle.wesl_link_split.proofs.binders.asks_otherwise.Given as goal

abbrev pub invariant-loop-reference : goal.invariant-loop-reference
invariant-loop-reference l =
    list_any (λ r. not (same_reference ids l.first r)) l.references ≡ list_any (λ r. not (same_reference ids l.first r)) (drop l.reference-index l.references)
