use Rattle.std.proofs.Common.{take, Contains}
use Rattle.wesl_link_flaws.specs.Keys.{AreKeys}
use Rattle.wesl_link_faults.specs.declared.open.Finding.{Finding}
use Rattle.wesl_explain_faults.specs.declared.faults.Wrong.{Wrong}
use Rattle.wesl_explain_faults.specs.Gathering.{IsFoundIn, wrong_in}
use Rattle.wesl_explain_faults.proofs.faults.wrongs_in.Given as goal

abbrev pub invariant-loop-finding : goal.invariant-loop-finding
invariant-loop-finding l = record {
  keys : AreKeys l.wrongs;
  all : (f : Finding) → Contains (take l.finding-index l.told) f → Contains l.wrongs.list.items (wrong_in f);
  only : (w : Wrong) → Contains l.wrongs.list.items w → IsFoundIn l.told w;
}
