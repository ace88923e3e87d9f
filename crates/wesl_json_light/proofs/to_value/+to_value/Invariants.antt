use Rattle.std.proofs.Common.{◌≡◌, take}
use Rattle.serde_json.specs.View.{items_view as values_view, members_view as map_view}
use Rattle.wesl_json_form.specs.View.{items_view, members_view}
use Rattle.wesl_json_light.proofs.to_value.+to_value.Given as goal

abbrev pub invariant-values_of-loop-item : goal.invariant-values_of-loop-item
invariant-values_of-loop-item l = values_view l.values.items ≡ items_view (take l.item-index l.items)

abbrev pub invariant-map_of-loop-member : goal.invariant-map_of-loop-member
invariant-map_of-loop-member l = map_view l.map.entries ≡ members_view (take l.member-index l.members)
