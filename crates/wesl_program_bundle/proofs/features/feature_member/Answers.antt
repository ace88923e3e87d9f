use Rattle.std.proofs.Common.{option_and_then, sym, ap, ◌∙◌}
use Rattle.serde_json.specs.Find.{get}
use Rattle.wesl_json_form.specs.View.{borrowed_view}
use Rattle.wesl_program_bundle.specs.Features.{feature_in, feature_of}
use Rattle.wesl_cond_features.specs.declared.features.Feature.TheVariants.{Disable}
use Rattle.wesl_program_bundle.specs.Forms.{a_feature, optional}
use Rattle.wesl_program_bundle.specs.Reading.{or_default}
use Rattle.wesl_program_bundle.proofs.Together.{of-stated, stated-read}
use Rattle.wesl_program_bundle.proofs.features.feature_member.Goals as goal

pub returns-in-Some-clause-ok : goal.returns-in-Some-clause-ok
returns-in-Some-clause-ok c =
    stated-read (or_default Disable feature_in) (get c.args.key.now (borrowed_view c.args.value.now)) (borrowed_view c.in-Some.word.now) c.stated.result c.feature_of.result (sym c.in-Some.ensures) c.stated.ensures.ok (ap (option_and_then feature_of) (sym c.as_str.ensures) ∙ sym c.feature_of.ensures)

pub returns-in-Some-clause-place : goal.returns-in-Some-clause-place
returns-in-Some-clause-place c =
    of-stated (optional c.args.key.now a_feature) (borrowed_view c.args.value.now) (borrowed_view c.in-Some.word.now) c.stated.result c.feature_of.result (sym c.in-Some.ensures) c.stated.ensures.place (λ none. ap (option_and_then feature_of) (sym c.as_str.ensures) ∙ sym c.feature_of.ensures ∙ none)
