use Rattle.std.proofs.Common.{◌≡◌, string_bytes, false, true≢false, sym, ap, ◌∙◌}
use Rattle.std.proofs.lemmas.Str.{IsUtf8-string_bytes}
use Rattle.json.specs.Print.{print}
use Rattle.wesl_tree.specs.Translation.{unit_view}
use Rattle.wesl_json_form.specs.Units.{written_as}
use Rattle.wesl_json_print.proofs.Texts.{text-printed, text-valid}
use Rattle.wesl_json_print.proofs.Writing.{written}
use Rattle.wesl_json_print.proofs.unit.print_unit.Goals as goal

pub unreachable-requires : goal.unreachable-requires
unreachable-requires c =
    let out = c.in_ok-out.out in
    let done : c.print_unit_to.new.out.sink.is_refused ≡ false = ap (λ s. s.is_refused) (sym c.into_sink.ensures) ∙ c.in_ok-out.ensures.noted in
    let kept : out.before ≡ string_bytes c.args.text =
    ap (λ w. w.before) c.in_ok-out.ensures.given ∙ ap (λ s. s.out.before) c.into_sink.ensures ∙ c.print_unit_to.ensures.told.before done ∙ ap (λ s. s.out.before) c.new-out.ensures.sink ∙ ap (λ w. w.before) c.new-2.ensures.out ∙ c.new.ensures.before ∙ ap (λ v. v.items) c.into_bytes.ensures.value in
    true≢false (sym (c.in-Err.ensures.succeeds (text-valid (string_bytes c.args.text) out.before c.into_inner.result.items (print out.tokens) kept c.into_inner.ensures.items (IsUtf8-string_bytes c.args.text) c.into_inner.ensures.utf8)))

pub returns : goal.returns
returns c =
    let out = c.in_ok-out.out in
    let d = written_as c.args.spans (unit_view c.args.unit.now) in
    let done : c.print_unit_to.new.out.sink.is_refused ≡ false = ap (λ s. s.is_refused) (sym c.into_sink.ensures) ∙ c.in_ok-out.ensures.noted in
    let kept : out.before ≡ string_bytes c.args.text =
    ap (λ w. w.before) c.in_ok-out.ensures.given ∙ ap (λ s. s.out.before) c.into_sink.ensures ∙ c.print_unit_to.ensures.told.before done ∙ ap (λ s. s.out.before) c.new-out.ensures.sink ∙ ap (λ w. w.before) c.new-2.ensures.out ∙ c.new.ensures.before ∙ ap (λ v. v.items) c.into_bytes.ensures.value in
    ap (λ v. v.items) c.in-Ok.ensures.ok
    ∙ text-printed (string_bytes c.args.text) out.before c.into_inner.result.items c.new-out.result.sink.out.tokens out.tokens d kept
    (ap (λ s. s.out.tokens) c.new-out.ensures.sink ∙ ap (λ w. w.tokens) c.new-2.ensures.out ∙ c.new.ensures.tokens) (ap (λ w. w.tokens) c.in_ok-out.ensures.given ∙ ap (λ s. s.out.tokens) c.into_sink.ensures ∙ written d c.print_unit_to.ensures.told done) c.into_inner.ensures.items
