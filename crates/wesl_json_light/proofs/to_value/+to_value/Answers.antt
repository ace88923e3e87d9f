use Rattle.std.proofs.Common.{◌≡◌, ◌<◌, length, get_or, sym, ap, ◌∙◌, rules}
use Rattle.serde_json.specs.Data.{put}
use Rattle.serde_json.specs.View.{view, members_view as map_view}
use Rattle.wesl_json_form.specs.View.{borrowed_view, key_text}
use Rattle.wesl_json_form.proofs.Lists.{Entry, members_view-more}
use Rattle.wesl_json_light.proofs.Light.{values-turn}
use Rattle.wesl_json_light.proofs.to_value.+to_value.Goals as goal

pub values_of-loop-item-preserved : goal.values_of-loop-item-preserved
values_of-loop-item-preserved t c =
    values-turn c.args.items.now c.loop-item.item-index c.item-item.result c.loop-item.values.items c.push.new.self.items c.in_ok-value_of_borrowed.field-0 (search rules) (search rules) (search rules) c.loop-item.invariant c.in_ok-value_of_borrowed.ensures

pub map_of-loop-member-preserved : goal.map_of-loop-member-preserved
map_of-loop-member-preserved t c =
    let xs = c.args.members.now in
    let m : Entry = c.member-item.result in
    let i = c.loop-member.member-index in
    let inside : i < length xs = search rules in
    let here : m ≡ get_or xs i m = search rules in
    c.in_ok-put.ensures.ok ∙ ap (λ k. put k (view c.in_ok-value_of_borrowed.field-0) (map_view c.loop-member.map.entries)) c.text.ensures
    ∙ ap (λ d. put (key_text m.0) d (map_view c.loop-member.map.entries)) c.in_ok-value_of_borrowed.ensures ∙ ap (put (key_text m.0) (borrowed_view m.1)) c.loop-member.invariant
    ∙ sym (members_view-more xs i m inside here)
