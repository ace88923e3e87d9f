use Rattle.std.proofs.Common.{◌≡◌, map, take}
use Rattle.wesl_link_assembly.specs.Denotations.{printed_as}
use Rattle.wesl_link_assembly.specs.Views.{denotation_view}
use Rattle.wesl_link_assembly.proofs.numbers.names.Given as goal

abbrev pub invariant-loop-denotation : goal.invariant-loop-denotation
invariant-loop-denotation g l = l.names ≡ map (printed_as (g.P.Printing.printed l.printing)) (map denotation_view (take l.denotation-index l.denotations))
