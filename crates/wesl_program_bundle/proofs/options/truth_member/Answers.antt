use Rattle.std.proofs.Common.{sym, ◌∙◌}
use Rattle.serde_json.specs.Find.{get}
use Rattle.wesl_json_form.specs.View.{borrowed_view}
use Rattle.std.proofs.Common.{false}
use Rattle.serde_json.specs.Find.{as_bool}
use Rattle.wesl_program_bundle.specs.Forms.{a_truth, optional}
use Rattle.wesl_program_bundle.specs.Reading.{or_default}
use Rattle.wesl_program_bundle.proofs.Together.{of-stated, stated-read}
use Rattle.wesl_program_bundle.proofs.options.truth_member.Goals as goal

pub returns-in-Some-clause-ok : goal.returns-in-Some-clause-ok
returns-in-Some-clause-ok c =
    stated-read (or_default false as_bool) (get c.args.key.now (borrowed_view c.args.value.now)) (borrowed_view c.in-Some.found.now) c.stated.result c.as_bool.result (sym c.in-Some.ensures) c.stated.ensures.ok (sym c.as_bool.ensures)

pub returns-in-Some-clause-place : goal.returns-in-Some-clause-place
returns-in-Some-clause-place c =
    of-stated (optional c.args.key.now a_truth) (borrowed_view c.args.value.now) (borrowed_view c.in-Some.found.now) c.stated.result c.as_bool.result (sym c.in-Some.ensures) c.stated.ensures.place (λ none. sym c.as_bool.ensures ∙ none)
