use Rattle.std.proofs.Common.{◌≡◌, ◌++◌, List, String, Global, length}
use Rattle.serde_json.specs.View.{members_view}
use Rattle.serde_json.specs.declared.value.Value.{Value}
use Rattle.wesl_json_write.specs.Building.{put_all}
use Rattle.wesl_json_write.specs.Holds.{pairs_of}
use Rattle.wesl_json_write.proofs.values.map_of.Given as goal

abbrev pub invariant-members : goal.invariant-members
invariant-members l = (rest : List (String Global × Value)) × (l.initial.members.items ≡ l.members.items ++ rest) × (members_view l.map.entries ≡ put_all (pairs_of rest))

abbrev pub decreases-members : goal.decreases-members
decreases-members l = length l.members.items
