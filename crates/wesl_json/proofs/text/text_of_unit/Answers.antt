use Rattle.std.proofs.Common.{◌≡◌, string_bytes, subst, ap, ◌∙◌}
use Rattle.std.proofs.lemmas.Result.{IfOk-weaker, err_from_is_err_and}
use Rattle.serde_json.specs.Data.{Data}
use Rattle.serde_json.specs.View.{view}
use Rattle.serde_json.specs.Written.{compact_text, has_float}
use Rattle.wesl_tree.specs.Translation.{unit_view}
use Rattle.wesl_tree_syntax.specs.Unit.{spelled}
use Rattle.wesl_json.specs.Texts.{IsReadBack}
use Rattle.wesl_json.specs.UnitTexts.{chosen_value, PrintsAs}
use Rattle.wesl_json.proofs.UnitTextLemmas.{chosen, chosen-text, printed}
use Rattle.wesl_json.proofs.text.text_of_unit.Goals as goal

pub returns-clause-text : goal.returns-clause-text
returns-clause-text c =
    let u = unit_view c.args.unit.now in
    let value = c.in_ok-value in
    let whole = ap has_float value.ensures.written ∙ c.law_of_whole_values.ensures c.in_ok-spans.spans u in
    IfOk-weaker c.text_of_value.result _ (λ s. string_bytes s ≡ compact_text (chosen_value u)) (λ s h. chosen-text u c.in_ok-spans.spans (view value.value) (string_bytes s) c.in_ok-spans.ensures value.ensures.written whole h) c.text_of_value.ensures.text

pub returns-clause-is_read : goal.returns-clause-is_read
returns-clause-is_read c =
    let u = unit_view c.args.unit.now in
    let value = c.in_ok-value in
    IfOk-weaker c.text_of_value.result _ (λ s. IsReadBack (chosen_value u) (string_bytes s)) (λ s h. subst (λ (d : Data). IsReadBack d (string_bytes s)) (chosen u c.in_ok-spans.spans (view value.value) c.in_ok-spans.ensures value.ensures.written) h) c.text_of_value.ensures.is_read

pub returns-clause-printed : goal.returns-clause-printed
returns-clause-printed c =
    let u = unit_view c.args.unit.now in
    let value = c.in_ok-value in
    let whole = ap has_float value.ensures.written ∙ c.law_of_whole_values.ensures c.in_ok-spans.spans u in
    IfOk-weaker c.text_of_value.result _ (λ s. PrintsAs (spelled u) (string_bytes s)) (λ s h. printed c.law_of_units.ensures c.args.unit.now c.in_ok-spans.spans (view value.value) (string_bytes s) c.in_ok-spans.ensures value.ensures.written whole h) c.text_of_value.ensures.text

pub returns-clause-refused : goal.returns-clause-refused
returns-clause-refused c = c.text_of_value.ensures.refused

pub returns-in_err-value-clause-refused : goal.returns-in_err-value-clause-refused
returns-in_err-value-clause-refused c =
    let p = err_from_is_err_and c.from_residual-in_err-value.result c.from_residual-in_err-value.ensures.1 in
    rw (p.1, p.2) c.in_err-value.ensures.refused
