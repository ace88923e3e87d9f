use Rattle.std.proofs.Common.{◌≡◌, take}
use Rattle.std.specs.Prelude.{flat_map}
use Rattle.wesl_validate_faults.specs.Gathered.{members_view, member_of}
use Rattle.wesl_validate_faults.proofs.members.members_of.Given as goal

abbrev pub invariant-loop-entry : goal.invariant-loop-entry
invariant-loop-entry l = members_view l.members.items ≡ flat_map (member_of l.names l.closers.items l.firsts.items) (take l.entry-index l.placed.items)
