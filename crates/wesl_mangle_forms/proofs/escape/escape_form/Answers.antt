use Rattle.std.proofs.Common.{◌∙◌, ap, arith, length, sym, ◌∷◌, ◌++◌, List, map, string_bytes}
use Rattle.std.proofs.lemmas.List.{append-nil, take_all}
use Rattle.std.specs.List.{flat_map}
use Rattle.wesl_tree_names.specs.Path.{Text, origin_view, path_view}
use Rattle.wesl_mangle_forms.specs.Escape.{from_pieces, escaped, escaped_origin, unescape}
use Rattle.wesl_mangle_forms.specs.Identifier.{is_ascii_identifier, begins_with_two_underscores}
use Rattle.wesl_mangle_forms.proofs.Identifiers.{identifier_form}
use Rattle.wesl_mangle_forms.proofs.Reading.{round_trip, some-escaped}
use Rattle.wesl_mangle_forms.proofs.Writing.{IfOk-to, short-names, text_small, written-more, some-origin, with-item}
use Rattle.wesl_mangle_forms.proofs.Written.{more, saying, then, worded}
use Rattle.wesl_mangle_forms.proofs.escape.escape_form.Goals as goal

pub loop-component-init : goal.loop-component-init
loop-component-init c =
    saying (ap from_pieces (sym (append-nil (escaped_origin (origin_view c.args.path.now.origin))))) (more c.new-text.ensures c.push_origin.ensures)

pub loop-component-preserved : goal.loop-component-preserved
loop-component-preserved c =
    let a = c.component-item.result in
    let o = origin_view c.args.path.now.origin in
    saying
    (written-more string_bytes escaped some-escaped (escaped_origin o) c.deref-component-items.result.now c.loop-component.component-index a a (some-origin o) c.loop-component-test.true c.component-item.is)
    (more c.loop-component.invariant (then c.push.ensures (worded (ap (λ (t : Text). from_pieces (escaped t)) c.as_str.ensures.value) c.push_escaped.ensures)))

pub returns-clause-named : goal.returns-clause-named
returns-clause-named c =
    let o = origin_view c.args.path.now.origin in
    let item = c.args.item.now in
    let cs : List Text = map string_bytes c.args.path.now.components.items in
    let t = take_all c.loop-component.component-index c.deref-component-items.result.now c.loop-component-test.false in
    c.end.ensures.said _
    (saying
    (ap (λ items. from_pieces (escaped_origin o ++ flat_map escaped (map string_bytes items)) ++ 95 ∷ from_pieces (escaped item)) (t ∙ c.deref-component-items.ensures.value)
    ∙ with-item (escaped_origin o) (flat_map escaped cs) item (some-origin o))
    (more c.loop-component.invariant (then c.push-2.ensures c.push_escaped-2.ensures)))

pub returns-clause-read_back : goal.returns-clause-read_back
returns-clause-read_back c =
    let s = short-names c.args.path.now c.args.item.now (omega arith) in
    IfOk-to _ _ (λ name e r. ap unescape e ∙ round_trip (path_view c.args.path.now) c.args.item.now s r) c.end.result (returns-clause-named c)

pub returns-clause-identifier : goal.returns-clause-identifier
returns-clause-identifier c =
    IfOk-to _ _
    (λ name e r.
    let l = text_small name in
    let m = ap length e in
    let h = identifier_form (path_view c.args.path.now) c.args.item.now (omega (arith, l, m)) r in
    (ap is_ascii_identifier e ∙ h.0, ap begins_with_two_underscores e ∙ h.1))
    c.end.result (returns-clause-named c)
