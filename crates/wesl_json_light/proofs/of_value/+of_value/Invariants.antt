use Rattle.std.proofs.Common.{◌≡◌, List, ◌++◌, take}
use Rattle.serde_json.specs.View.{items_view as values_view, members_view as map_view}
use Rattle.serde_json.proofs.Views.{Entry}
use Rattle.wesl_json_form.specs.View.{items_view, members_view}
use Rattle.wesl_json_light.proofs.of_value.+of_value.Given as goal

abbrev pub invariant-items_of-loop-value : goal.invariant-items_of-loop-value
invariant-items_of-loop-value l = items_view l.items.items ≡ values_view (take l.value-index l.value-items)

abbrev pub invariant-members_of-loop-key : goal.invariant-members_of-loop-key
invariant-members_of-loop-key l =
    (done : List Entry) × (l.map.entries ≡ done ++ l.key-iterator) × (members_view l.members.items ≡ map_view done)
