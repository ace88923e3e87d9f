use Rattle.std.proofs.Common.{option_and_then, sym, ap, ◌∙◌}
use Rattle.serde_json.specs.Find.{get}
use Rattle.wesl_json_form.specs.View.{borrowed_view}
use Rattle.wesl_program_bundle.specs.Bundle.{below_limit, limit_in}
use Rattle.wesl_program_bundle.specs.Forms.{a_limit, optional}
use Rattle.wesl_program_bundle.specs.Reading.{or_default}
use Rattle.wesl_program_bundle.proofs.Together.{of-stated, stated-read}
use Rattle.wesl_program_bundle.proofs.options.limit_member.Goals as goal

pub returns-in-Some-clause-ok : goal.returns-in-Some-clause-ok
returns-in-Some-clause-ok c =
    stated-read (or_default 1000 limit_in) (get c.args.key.now (borrowed_view c.args.value.now)) (borrowed_view c.in-Some.found.now) c.stated.result c.limit_of.result (sym c.in-Some.ensures) c.stated.ensures.ok (ap (option_and_then below_limit) (sym c.as_u64.ensures) ∙ sym c.limit_of.ensures)

pub returns-in-Some-clause-place : goal.returns-in-Some-clause-place
returns-in-Some-clause-place c =
    of-stated (optional c.args.key.now a_limit) (borrowed_view c.args.value.now) (borrowed_view c.in-Some.found.now) c.stated.result c.limit_of.result (sym c.in-Some.ensures) c.stated.ensures.place (λ none. ap (option_and_then below_limit) (sym c.as_u64.ensures) ∙ sym c.limit_of.ensures ∙ none)
