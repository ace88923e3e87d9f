use Rattle.std.proofs.Common.{◌≡◌, ◌∷◌, [], ◌++◌, Some, string_bytes, string_cmp, ap, sym, ◌∙◌, subst, append_assoc, option_and_then, rules}
use Rattle.std.specs.List.Sorted.{IsStrictlySortedBy}
use Rattle.std.specs.Map.{keys_of}
use Rattle.std.specs.Prelude.{IfErr}
use Rattle.serde_json.specs.Find.{as_object}
use Rattle.serde_json.specs.View.{members_view, view}
use Rattle.serde_json.proofs.Views.{Entry}
use Rattle.wesl_program_bundle.specs.Features.{feature_in, feature_of}
use Rattle.wesl_program_bundle.specs.Parts.{IsUnreadUnder}
use Rattle.wesl_program_bundle.proofs.Flags.{one-flag}
use Rattle.wesl_program_bundle.proofs.features.flags_of.Goals as goal

pub loop-name-preserved : goal.loop-name-preserved
loop-name-preserved c =
    let e : Entry = (c.in-Some-2.name.now, c.in-Some-2.word.now) in
    let l = c.loop-name in
    let done = l.invariant.0 in
    let d = view c.args.value.now in
    let all : c.in-Some.members.now.entries ≡ done ++ e ∷ c.next.new.self = search rules in
    let sorted : IsStrictlySortedBy string_cmp (keys_of (done ++ e ∷ c.next.new.self)) =
    subst (λ es. IsStrictlySortedBy string_cmp (keys_of es)) all c.iter-name-items.ensures.ordered in
    let is : as_object d ≡ Some (members_view (done ++ e ∷ c.next.new.self)) = sym c.in-Some.ensures ∙ ap (λ es. Some (members_view es)) all in
    let same : feature_in (view e.1) ≡ c.feature_of.result = ap (option_and_then feature_of) (sym c.as_str-in-loop-name.ensures) ∙ sym c.feature_of.ensures in
    let bad : IfErr c.stated-answer.result (IsUnreadUnder (string_bytes e.0) c.feature_of.result) =
    subst (λ k. IfErr c.stated-answer.result (IsUnreadUnder k c.feature_of.result)) c.as_str.ensures.value c.stated-answer.ensures.place in (
      done ++ e ∷ [],
      l.invariant.1 ∙ ap (λ es. done ++ es) c.in-Some-2.ensures.steps ∙ sym (append_assoc done (e ∷ []) c.next.new.self),
      one-flag d done e c.next.new.self is sorted l.flags l.invariant.2 c.feature_of.result same c.stated-answer.result c.stated-answer.ensures.ok bad c.with_flag-flags.result c.with_flag-flags.ensures.ok c.with_flag-flags.ensures.place,
    )
