use Rattle.std.proofs.Common.{◌≡◌, take, map}
use Rattle.wesl_link_split.specs.Grouped.{facts_of}
use Rattle.wesl_link_split.proofs.sight.add_facts.Given as goal

abbrev pub invariant-loop-group : goal.invariant-loop-group
invariant-loop-group l = l.facts.items ≡ map (λ g. facts_of g.items) (take l.group-index l.groups)
