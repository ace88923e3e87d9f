use Rattle.std.proofs.Common.{false, option_and_then, sym, ap, ◌∙◌}
use Rattle.serde_json.specs.Find.{get}
use Rattle.wesl_json_form.specs.View.{borrowed_view}
use Rattle.wesl_program_bundle.specs.Bundle.{form_in, spans_in_form}
use Rattle.wesl_program_bundle.specs.Forms.{a_form, optional}
use Rattle.wesl_program_bundle.specs.Reading.{or_default}
use Rattle.wesl_program_bundle.proofs.Together.{of-stated, stated-read}
use Rattle.wesl_program_bundle.proofs.options.form_member.Goals as goal

pub returns-in-Some-clause-ok : goal.returns-in-Some-clause-ok
returns-in-Some-clause-ok c =
    stated-read (or_default false form_in) (get c.args.key.now (borrowed_view c.args.value.now)) (borrowed_view c.in-Some.found.now) c.stated.result c.spans_of.result (sym c.in-Some.ensures) c.stated.ensures.ok (ap (option_and_then spans_in_form) (sym c.as_u64.ensures) ∙ sym c.spans_of.ensures)

pub returns-in-Some-clause-place : goal.returns-in-Some-clause-place
returns-in-Some-clause-place c =
    of-stated (optional c.args.key.now a_form) (borrowed_view c.args.value.now) (borrowed_view c.in-Some.found.now) c.stated.result c.spans_of.result (sym c.in-Some.ensures) c.stated.ensures.place (λ none. ap (option_and_then spans_in_form) (sym c.as_u64.ensures) ∙ sym c.spans_of.ensures ∙ none)
