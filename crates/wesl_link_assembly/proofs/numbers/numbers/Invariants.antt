use Rattle.std.proofs.Common.{[], map, take}
use Rattle.wesl_link_assembly.specs.Denotations.{free_name}
use Rattle.wesl_link_assembly.specs.Views.{denotation_view}
use Rattle.wesl_link_assembly.proofs.Numbering.{Numbered}
use Rattle.wesl_link_assembly.proofs.numbers.numbers.Given as goal

abbrev pub invariant-loop-denotation : goal.invariant-loop-denotation
invariant-loop-denotation l = Numbered (free_name []) (map denotation_view (take l.denotation-index l.denotations)) l.numbers.items (map denotation_view l.different.keys)
