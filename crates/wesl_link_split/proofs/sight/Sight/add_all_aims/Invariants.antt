use Rattle.wesl_link_split.specs.SightView.{sight_view, AreAims}
use Rattle.wesl_link_split.proofs.sight.Sight.add_all_aims.Given as goal

abbrev pub invariant-loop-group : goal.invariant-loop-group
invariant-loop-group l = AreAims (sight_view l.self) l.aims.entries
