use Rattle.std.proofs.Common.{◌≡◌, ◌≤◌, length, take}
use Rattle.serde_json.specs.Find.{get_member}
use Rattle.wesl_json_form.specs.View.{members_view}
use Rattle.wesl_json_form.proofs.members.last_at.Given as goal

abbrev pub invariant-loop-left : goal.invariant-loop-left
invariant-loop-left l =
    (l.left ≤ length l.members) × (get_member l.key (members_view (take l.left l.members)) ≡ get_member l.key (members_view l.members))

abbrev pub decreases-loop-left : goal.decreases-loop-left
decreases-loop-left l = l.left
