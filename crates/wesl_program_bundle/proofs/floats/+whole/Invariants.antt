use Rattle.std.proofs.Common.{◌≡◌, take, false}
use Rattle.serde_json.specs.Written.{items_have_float, members_have_float}
use Rattle.wesl_json_form.specs.View.{items_view, members_view}
use Rattle.wesl_program_bundle.proofs.floats.+whole.Given as goal

abbrev pub invariant-are_whole-loop-item : goal.invariant-are_whole-loop-item
invariant-are_whole-loop-item l = items_have_float (items_view (take l.item-index l.items)) ≡ false

abbrev pub invariant-have_whole-loop-member : goal.invariant-have_whole-loop-member
invariant-have_whole-loop-member l = members_have_float (members_view (take l.member-index l.members)) ≡ false
