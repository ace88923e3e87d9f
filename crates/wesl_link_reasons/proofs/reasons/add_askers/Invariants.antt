use Rattle.std.proofs.Common.{◌<◌, length, reverse}
use Rattle.wesl_link_reasons.proofs.Ending.{IsBack, AreBehind}
use Rattle.wesl_link_reasons.proofs.reasons.add_askers.Given as goal

abbrev pub invariant-askers : goal.invariant-askers
invariant-askers l = record {
  within : l.at < length l.nodes;
  back : IsBack l.nodes l.place l.at l.chain.items;
  behind : AreBehind l.nodes l.at (reverse l.chain.items);
}

abbrev pub decreases-askers : goal.decreases-askers
decreases-askers l = l.at
