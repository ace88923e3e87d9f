use Rattle.std.proofs.Common.{◌≡◌, ◌∷◌, [], ◌++◌, ◌<◌, length, get_or, false, string_bytes, sym, ap, ◌∙◌, subst, append_assoc, arith, rules}
use Rattle.std.proofs.lemmas.Grind.{common_steps}
use Rattle.serde_json.specs.View.{view, items_view, members_view}
use Rattle.serde_json.specs.Written.{has_float}
use Rattle.serde_json.proofs.Views.{Entry}
use Rattle.wesl_json_form.specs.Keys.{HasMember}
use Rattle.wesl_json_form.specs.Pointer.{key}
use Rattle.wesl_program_bundle.specs.Broken.{IsUnder}
use Rattle.wesl_program_bundle.proofs.Places.{HasFloatAt-item, HasFloatAt-member}
use Rattle.wesl_program_bundle.proofs.Wholes.{item-found, floats-turn, floats-member, HasMember-middle}
use Rattle.wesl_program_bundle.proofs.floats.+floats.Goals as goal

pub check_items-returns-in-Err-clause-place : goal.check_items-returns-in-Err-clause-place
check_items-returns-in-Err-clause-place t c =
    let vs = c.args.items.now in
    let i = c.loop-index.index in
    let v = c.index-items-index.result in
    let within : i < length vs = search rules in
    let here : v ≡ get_or vs i v = search rules in
    HasFloatAt-item i (items_view vs) (view v) c.in-Err.error c.under_index.result (item-found vs i v within here) c.in-Err.ensures.place c.under_index.ensures

pub check_items-loop-index-preserved : goal.check_items-loop-index-preserved
check_items-loop-index-preserved t c =
    let vs = c.args.items.now in
    let i = c.loop-index.index in
    let v = c.index-items-index.result in
    let within : i < length vs = search rules in
    let here : v ≡ get_or vs i v = search rules in
    let whole : has_float (view v) ≡ false = grind (arith, common_steps) in
    floats-turn vs i v within here c.loop-index.invariant whole

pub check_members-returns-in-Err-clause-place : goal.check_members-returns-in-Err-clause-place
check_members-returns-in-Err-clause-place t c =
    let e : Entry = (c.in-Some.key.now, c.in-Some.value.now) in
    let done = c.loop-key.invariant.0 in
    let all : c.args.members.now.entries ≡ done ++ e ∷ c.next.new.self = search rules in
    let has : HasMember (string_bytes e.0) (view e.1) (members_view c.args.members.now.entries) =
    subst (λ es. HasMember (string_bytes e.0) (view e.1) (members_view es)) (sym all) (HasMember-middle done e c.next.new.self) in
    let named : c.as_str.result.now ≡ string_bytes e.0 = c.as_str.ensures.value in
    let longer : IsUnder (key (string_bytes e.0)) c.in-Err.error c.under.result =
    subst (λ k. IsUnder (key k) c.in-Err.error c.under.result) named c.under.ensures in
    HasFloatAt-member (string_bytes e.0) (members_view c.args.members.now.entries) (view e.1) c.in-Err.error c.under.result has c.in-Err.ensures.place longer

pub check_members-loop-key-preserved : goal.check_members-loop-key-preserved
check_members-loop-key-preserved t c =
    let e : Entry = (c.in-Some.key.now, c.in-Some.value.now) in
    let l = c.loop-key in
    let whole : has_float (view e.1) ≡ false = grind (arith, common_steps) in (
      l.invariant.0 ++ e ∷ [],
      l.invariant.1 ∙ ap (λ es. l.invariant.0 ++ es) c.in-Some.ensures.steps ∙ sym (append_assoc l.invariant.0 (e ∷ []) c.next.new.self),
      floats-member l.invariant.0 e l.invariant.2 whole,
    )
