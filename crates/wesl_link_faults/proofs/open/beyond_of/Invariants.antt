use Rattle.std.proofs.Common.{take}
use Rattle.wesl_link_faults.specs.Opening.{AreBeyond}
use Rattle.wesl_link_faults.proofs.open.beyond_of.Given as goal

abbrev pub invariant-loop-path : goal.invariant-loop-path
invariant-loop-path l = AreBeyond l.asked.list.items (take l.path-index l.entered) l.beyond.items
