use Rattle.std.proofs.Common.{◌≡◌, [], ◌∷◌, ◌++◌, sym, ap, ◌∙◌, subst, append_assoc, rules}
use Rattle.std.specs.List.Sorted.{IsStrictlySortedBy}
use Rattle.std.specs.Map.{keys_of}
use Rattle.std.specs.String.{string_cmp}
use Rattle.serde_json.proofs.Views.{Entry, put_last}
use Rattle.wesl_json_form.proofs.Lists.{members_view-then}
use Rattle.wesl_json_light.proofs.Light.{items-turn}
use Rattle.wesl_json_light.proofs.of_value.+of_value.Goals as goal

pub items_of-loop-value-preserved : goal.items_of-loop-value-preserved
items_of-loop-value-preserved t c =
    items-turn c.deref-value-items.result.now c.loop-value.value-index c.value-item.result c.loop-value.items.items c.push.new.self.items c.in_ok-borrowed_of_value.field-0 (search rules) (search rules) (search rules) c.loop-value.invariant c.in_ok-borrowed_of_value.ensures

pub members_of-loop-key-preserved : goal.members_of-loop-key-preserved
members_of-loop-key-preserved t c =
    let l = c.loop-key in
    let done = l.invariant.0 in
    let e : Entry = (c.in-Some.key.now, c.in-Some.value.now) in
    let left = c.next.new.self in
    let all : c.args.map.now.entries ≡ done ++ e ∷ left = l.invariant.1 ∙ ap (λ es. done ++ es) c.in-Some.ensures.steps in
    let last = put_last done e left (subst (λ es. IsStrictlySortedBy string_cmp (keys_of es)) all c.iter-key-items.ensures.ordered) in (
      done ++ e ∷ [],
      all ∙ sym (append_assoc done (e ∷ []) left),
      search (rules, last, members_view-then),
    )
