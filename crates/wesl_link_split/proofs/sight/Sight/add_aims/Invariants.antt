use Rattle.std.proofs.Common.{take}
use Rattle.wesl_link_split.specs.Noted.{AreAskers}
use Rattle.wesl_link_split.specs.SightView.{sight_view, AreAims}
use Rattle.wesl_link_split.proofs.sight.Sight.add_aims.Given as goal

abbrev pub invariant-loop-binder : goal.invariant-loop-binder
invariant-loop-binder l = record {
  noted : AreAskers (sight_view l.self) (take l.binder-index l.group) l.askers;
  aims : AreAims (sight_view l.self) l.aims.entries;
}
