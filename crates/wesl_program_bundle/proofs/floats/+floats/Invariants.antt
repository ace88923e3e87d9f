use Rattle.std.proofs.Common.{◌≡◌, List, ◌++◌, take, false}
use Rattle.serde_json.specs.Written.{items_have_float, members_have_float}
use Rattle.serde_json.specs.View.{items_view, members_view}
use Rattle.serde_json.proofs.Views.{Entry}
use Rattle.wesl_program_bundle.proofs.floats.+floats.Given as goal

abbrev pub invariant-check_items-loop-index : goal.invariant-check_items-loop-index
invariant-check_items-loop-index l = items_have_float (items_view (take l.index l.items)) ≡ false

abbrev pub invariant-check_members-loop-key : goal.invariant-check_members-loop-key
invariant-check_members-loop-key l =
    (done : List Entry) × (l.initial.key-iterator ≡ done ++ l.key-iterator) × (members_have_float (members_view done) ≡ false)
