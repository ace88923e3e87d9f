use Rattle.std.proofs.Common.{◌≡◌, map, take}
use Rattle.wesl_explain_faults.specs.Gathering.{HaveAskers, wrong_at}
use Rattle.wesl_explain_faults.proofs.faults.gather.Given as goal

abbrev pub invariant-loop-wrong : goal.invariant-loop-wrong
invariant-loop-wrong l = record {
  same : map wrong_at l.faults.items ≡ take l.wrong-index l.wrongs;
  askers : HaveAskers l.ties.told.now l.faults.items;
}
