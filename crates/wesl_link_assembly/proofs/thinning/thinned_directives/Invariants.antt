use Rattle.std.proofs.Common.{map, take}
use Rattle.wesl_tree.specs.Translation.{unit_view}
use Rattle.wesl_link_assembly.specs.Directives.{all_directives}
use Rattle.wesl_link_assembly.specs.Thinning.{IsThinning}
use Rattle.wesl_link_assembly.proofs.thinning.thinned_directives.Given as goal

abbrev pub invariant-loop-unit : goal.invariant-loop-unit
invariant-loop-unit l = IsThinning (all_directives (map (λ u. unit_view u.now) (take l.unit-index l.units))) l.thinning
